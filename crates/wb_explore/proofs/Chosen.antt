-- What a transfer more leaves of the inputs that the dialogues choose, and of a witness.
use Rattle.std.proofs.Common.{◌≡◌, ℕ, zero, suc, ◌+◌, ◌<◌, ◌≤◌, Bool, true, false, Option, Some, None, List, [], ◌∷◌, ◌++◌, length, take, slice_get, slice_index, replicate, refl, sym, ap, ◌∙◌, subst, arith}
use Rattle.std.proofs.lemmas.Bool.{both_ways}
use Rattle.std.proofs.lemmas.List.{length-replicate, length-append, append_assoc, take-append-le}
use Rattle.std.proofs.lemmas.Option.{slice_get_within}
use Rattle.wb_term.specs.declared.nodes.WordNode.{WordNode}
use Rattle.wb_term.specs.declared.nodes.WordNode.TheVariants.{Byte, Cell}
use Rattle.wb_term.specs.declared.nodes.Node.{Node}
use Rattle.wb_term.specs.declared.nodes.Node.TheVariants.{Word}
use Rattle.wb_term.specs.Nodes.{Each}
use Rattle.wb_term.specs.Inputs.{Assignment}
use Rattle.wb_term.specs.Terms.{Terms}
use Rattle.wb_term.specs.Under.{HasOnly}
use Rattle.wb_fold.specs.Flags.{flag_numbers}
use Rattle.wb_symstep.specs.declared.state.SymState.{SymState}
use Rattle.wb_symstep.specs.State.{StateHasOnly}
use Rattle.wb_port.specs.declared.accesses.Access.{Access}
use Rattle.wb_port.specs.declared.accesses.Access.TheVariants as access
use Rattle.wb_port.specs.declared.accesses.Kind.{Kind}
use Rattle.wb_port.specs.declared.accesses.Kind.TheVariants as kind
use Rattle.wb_port.specs.declared.accesses.Power.{Power}
use Rattle.wb_point.specs.Laws.{DialoguesGrowAtTheEnd, NormalisedInputsKeepTheDialogue, IsWriteAt}
use Rattle.wb_point.specs.Dialogues.{access_under, accesses_under, start_under, transfer_bytes, normalised}
use Rattle.wb_explore.specs.Plans.{is_write, is_chosen, is_chosen_word}

-- a write stays one where a kind is added
write_stays : (ks : List Kind) (k : Kind) (place : ℕ) → is_write (slice_get ks place) ≡ true → is_write (slice_get (ks ++ k ∷ []) place) ≡ true
write_stays [] k place e = absurd (both_ways false refl e)
write_stays (x ∷ ks) k zero e = e
write_stays (x ∷ ks) k (suc place) e = write_stays ks k place e

pub last_write : (ks : List Kind) → is_write (slice_get (ks ++ kind.Write ∷ []) (length ks)) ≡ true
last_write [] = refl
last_write (x ∷ ks) = last_write ks

word_stays : (ks : List Kind) (k : Kind) (p : Power) (n : WordNode) → is_chosen_word ks p n ≡ true → is_chosen_word (ks ++ k ∷ []) p n ≡ true
word_stays ks k p (Byte place) e = write_stays ks k place e
word_stays ks k p (Cell place) e = e
word_stays ks k p _ e = absurd (both_ways false refl e)

-- what dialogues choose they choose with one transfer more
pub chosen_stays : (ks : List Kind) (k : Kind) (p : Power) (n : Node) → is_chosen ks p n ≡ true → is_chosen (ks ++ k ∷ []) p n ≡ true
chosen_stays ks k p (Word n) e = word_stays ks k p n e
chosen_stays ks k p _ e = absurd (both_ways false refl e)

module _ (g : Terms) (one other : Node → Bool) (more : (n : Node) → one n ≡ true → other n ≡ true) where
  pub more_only : (k : ℕ) → HasOnly g one k → HasOnly g other k
  more_only k h = record { passes = λ j n u at is. more n (h.passes j n u at is) }

  more_each : (ks : List ℕ) → Each (HasOnly g one) ks → Each (HasOnly g other) ks
  more_each [] h = tt
  more_each (k ∷ ks) h = (more_only k h.0, more_each ks h.1)

  pub more_state : (s : SymState) → StateHasOnly g one s → StateHasOnly g other s
  more_state s h = record {
    rp = more_only s.rp.number h.rp;
    dp = more_only s.dp.number h.dp;
    a = more_only s.a.number h.a;
    b = more_only s.b.number h.b;
    tr = more_only s.tr.number h.tr;
    trb = more_only s.trb.number h.trb;
    k = more_only s.k.number h.k;
    l = more_only s.l.number h.l;
    dr = more_only s.dr.number h.dr;
    sr = more_only s.sr.number h.sr;
    so = more_only s.so.number h.so;
    flags_a = more_each (flag_numbers s.flags_a) h.flags_a;
    flags_b = more_each (flag_numbers s.flags_b) h.flags_b;
    ram = record { only = λ j within. more_only _ (h.ram.only j within) };
  }

-- inputs that are normalised are so with one transfer more

bytes_append : (l : List Access) (x : Access) → transfer_bytes (l ++ x ∷ []) ≡ transfer_bytes l ++ transfer_bytes (x ∷ [])
bytes_append [] x = refl
bytes_append (access.Status ∷ l) x = bytes_append l x
bytes_append (access.Read ∷ l) x = ap (λ (r : List ℕ). 0 ∷ r) (bytes_append l x)
bytes_append (access.Write b ∷ l) x = ap (λ (r : List ℕ). b ∷ r) (bytes_append l x)

get_past : (ks : List Kind) → slice_get ks (length ks) ≡ None
get_past [] = refl
get_past (x ∷ ks) = get_past ks

not_write : (ks : List Kind) → IsWriteAt ks (length ks) → ⊥
not_write ks e = let n = get_past ks in let q : Some kind.Write ≡ None = sym e ∙ n in absurd (cc)

-- a zero more at the end changes nothing of sixteen padded numbers
padded_same : (xs : List ℕ) → take 16 ((xs ++ 0 ∷ []) ++ replicate 16 0) ≡ take 16 (xs ++ replicate 16 0)
padded_same xs = ap (take 16) (append_assoc xs (0 ∷ []) (replicate 16 0) ∙ sym (append_assoc xs (replicate 16 0) (0 ∷ []))) ∙ take-append-le 16 (xs ++ replicate 16 0) (0 ∷ []) long
  where
    long : 16 ≤ length (xs ++ replicate 16 0)
    long = let l = length-append xs (replicate 16 0) in let m = length-replicate {A = ℕ} 16 0 in omega arith

module _ (grow : DialoguesGrowAtTheEnd) (keep : NormalisedInputsKeepTheDialogue) where
  last_zero : (ks : List Kind) (p : Power) (w : Assignment) → length ks < 16 → normalised ks p w ≡ w → slice_index w.bytes (length ks) ≡ 0
  last_zero ks p w less e = ap (λ (i : Assignment). slice_index i.bytes (length ks)) (sym e) ∙ (keep ks p w (omega (arith, less))).others (length ks) (not_write ks)

  last_bytes : (ks : List Kind) (k : Kind) (p : Power) (w : Assignment) → length ks < 16 → normalised ks p w ≡ w → transfer_bytes (access_under w (length ks) k ∷ []) ≡ 0 ∷ []
  last_bytes ks kind.Read p w less e = refl
  last_bytes ks kind.Write p w less e = ap (λ (n : ℕ). n ∷ []) (last_zero ks p w less e)

  pub normal_longer : (ks : List Kind) (k : Kind) (p : Power) (w : Assignment) → length ks < 16 → normalised ks p w ≡ w → normalised (ks ++ k ∷ []) p w ≡ w
  normal_longer ks k p w less e = ap made same ∙ e
    where
      made : List ℕ → Assignment
      made bytes = record { bytes = bytes; cells = start_under w p }

      grown : transfer_bytes (accesses_under w 0 (ks ++ k ∷ [])) ≡ transfer_bytes (accesses_under w 0 ks) ++ 0 ∷ []
      grown =
          ap transfer_bytes (grow ks k w)
          ∙ (bytes_append (accesses_under w 0 ks) (access_under w (length ks) k) ∙ ap (λ (l : List ℕ). transfer_bytes (accesses_under w 0 ks) ++ l) (last_bytes ks k p w less e))

      same : take 16 (transfer_bytes (accesses_under w 0 (ks ++ k ∷ [])) ++ replicate 16 0) ≡ take 16 (transfer_bytes (accesses_under w 0 ks) ++ replicate 16 0)
      same = ap (λ (l : List ℕ). take 16 (l ++ replicate 16 0)) grown ∙ padded_same (transfer_bytes (accesses_under w 0 ks))
