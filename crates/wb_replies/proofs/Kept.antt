-- Circuits in a graph that grows.
use Rattle.std.proofs.Common.{◌≡◌, ℕ, Bool, Some, inl, inr, sym, ap, ◌∙◌}
use Rattle.wb_rom.specs.declared.images.Image.{Image}
use Rattle.wb_term.specs.Inputs.{Assignment}
use Rattle.wb_term.specs.Terms.{Terms}
use Rattle.wb_term.specs.Values.{word_value, bit_value}
use Rattle.wb_term.specs.Growth.{Grown}
use Rattle.wb_explore.specs.declared.plan.Plan.{Plan}
use Rattle.wb_replies.specs.declared.circuit.ReplyCircuit.{ReplyCircuit}
use Rattle.wb_replies.specs.Circuits.{IsCircuit, TellsReplies}
use Rattle.wb_replies.specs.Differences.{AreToldApart}
use Rattle.wb_replies.specs.Laws.{CircuitsStay}

-- a circuit has the same values in both graphs
record SameValues (g h : Terms) (c : ReplyCircuit) : Type 0 where
  present : (i : Assignment) → bit_value i h c.present ≡ bit_value i g c.present
  status : (i : Assignment) → word_value i h c.status ≡ word_value i g c.status
  read : (i : Assignment) → word_value i h c.read ≡ word_value i g c.read

same : (g h : Terms) (c : ReplyCircuit) → Grown g h → IsCircuit g c → SameValues g h c
same g h c grown is = record {
  present = λ i. grown.bit_values i c.present is.present;
  status = λ i. grown.word_values i c.status is.status;
  read = λ i. grown.word_values i c.read is.read;
}

back : (g h : Terms) (c : ReplyCircuit) → SameValues g h c → SameValues h g c
back g h c s = record { present = λ i. sym (s.present i); status = λ i. sym (s.status i); read = λ i. sym (s.read i) }

tells : (g h : Terms) (image : Image) (p : Plan) (c : ReplyCircuit) → SameValues g h c → TellsReplies g image p c → TellsReplies h image p c
tells g h image p c s t = record {
  present = λ i ok. (λ e. (t.present i ok).0 (sym (s.present i) ∙ e), λ d. s.present i ∙ (t.present i ok).1 d);
  status = λ i ok d asks. t.status i ok d asks ∙ ap (λ (n : ℕ). Some n) (sym (s.status i));
  read = λ i ok d asks. t.read i ok d asks ∙ ap (λ (n : ℕ). Some n) (sym (s.read i));
}

apart : (g h : Terms) (i : Assignment) (a b : ReplyCircuit) (w : Bool) → SameValues g h a → SameValues g h b → AreToldApart i g a b w → AreToldApart i h a b w
apart g h i a b w s t x = record {
  first = s.present i ∙ x.first;
  second = t.present i ∙ x.second;
  differ = elim x.differ [
    | inl n ↦ inl (λ e. n (sym (s.status i) ∙ e ∙ t.status i))
    | inr n ↦ inr (n.0, λ e. n.1 (sym (s.read i) ∙ e ∙ t.read i))
  ];
}

pub kept : CircuitsStay
kept g h grown = record {
  there = λ c is. record { present = grown.bits c.present is.present; status = grown.words c.status is.status; read = grown.words c.read is.read };
  only = λ allowed c is o. record {
    present = grown.bit_inputs allowed c.present is.present o.present;
    status = grown.word_inputs allowed c.status is.status o.status;
    read = grown.word_inputs allowed c.read is.read o.read;
  };
  tells = λ image p c is t. tells g h image p c (same g h c grown is) t;
  told = λ image p c is t. tells h g image p c (back g h c (same g h c grown is)) t;
  apart = λ i a b w one other. (
    apart g h i a b w (same g h a grown one) (same g h b grown other),
    apart h g i a b w (back g h a (same g h a grown one)) (back g h b (same g h b grown other)),
  );
}
