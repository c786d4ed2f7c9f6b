-- A text that is put, and a content that is read, in pieces.
use Rattle.std.proofs.Common.{◌≡◌, ◌≢◌, ℕ, ◌+◌, ◌-◌, ◌<◌, ◌≤◌, List, ◌++◌, length, take, drop, Option, None, Some, sym, ap, subst, ◌∙◌, arith}
use Rattle.std.proofs.Math.Seq.{take-add}
use Rattle.std.proofs.lemmas.List.{take_rest, take_all, length-append, length-take-le}
use Rattle.std.proofs.KnownBytes.{Appends-trans}
use Rattle.wb_base.specs.Sink.{Appends}
use Rattle.wb_base.specs.Shelf.{Content, Gives, IsWhole}

-- what was put before, and m more bytes of the rest of the text
pub appends_more : (a b c : Option (List ℕ)) (text : List ℕ) (at m : ℕ) → Appends a b (take at text)
    → Appends b c (take m (take (length text - at) (drop at text))) → Appends a c (take (at + m) text)
appends_more a b c text at m first second =
    let rest : take (length text - at) (drop at text) ≡ drop at text = take_rest text at in
    let both : take at text ++ take m (drop at text) ≡ take (at + m) text = sym (take-add at m text) in
    subst (Appends a c) both (Appends-trans a b c _ _ first (subst (λ xs. Appends b c (take m xs)) rest second))

-- the bytes that were read so far are the front of the content, which is not absent once there are some
pub record SoFar (content : Content) (bytes : List ℕ) : Type 0 where
  pub present : 0 < length bytes → content ≢ Some None
  pub front : (xs : List ℕ) → content ≡ Some (Some xs) → take (length bytes) xs ≡ bytes
  pub inside : (xs : List ℕ) → content ≡ Some (Some xs) → length bytes ≤ length xs

-- what was read before, and m more bytes
pub so_far_more : (content : Content) (bytes old chunk : List ℕ) (m : ℕ) → SoFar content bytes
    → Gives content (length bytes) old chunk m → m ≤ length chunk → SoFar content (bytes ++ take m chunk)
so_far_more content bytes old chunk m s g bound =
    let len : length (bytes ++ take m chunk) ≡ length bytes + m =
    length-append bytes (take m chunk) ∙ ap (λ k. length bytes + k) (length-take-le m chunk bound) in
    record {
      present = λ _. g.present;
      front = λ xs told. ap (λ k. take k xs) len ∙ take-add (length bytes) m xs
          ∙ ap (λ ys. ys ++ take m (drop (length bytes) xs)) (s.front xs told)
          ∙ ap (λ ys. bytes ++ ys) (sym (g.told xs told).bytes);
      inside = λ xs told. let w = (g.told xs told).within in let i = s.inside xs told in omega arith;
    }

-- a read at a place that is named otherwise
pub gives_at : (content known : Content) (at place : ℕ) (old chunk : List ℕ) (m : ℕ) → content ≡ known → at ≡ place
    → Gives content at old chunk m → Gives known place old chunk m
gives_at content known at place old chunk m e p g =
    subst (λ k. Gives k place old chunk m) e (subst (λ k. Gives content k old chunk m) p g)

at_the_end : (at len m : ℕ) → m ≡ 0 → (at < len → 0 < m) → len ≤ at
at_the_end at len m none more = grind arith

-- a read that gives nothing is at the end
pub whole_at_end : (limit : ℕ) (content : Content) (bytes old chunk : List ℕ) (m : ℕ) → SoFar content bytes
    → Gives content (length bytes) old chunk m → m ≡ 0 → 0 < length chunk → length bytes ≤ limit → IsWhole limit content bytes
whole_at_end limit content bytes old chunk m s g none room within = record {
  present = g.present;
  told = λ xs told.
      let more = (g.told xs told).some room in
      let ended : length xs ≤ length bytes = at_the_end (length bytes) (length xs) m none more in
      sym (s.front xs told) ∙ take_all (length bytes) xs ended;
  within = within;
}
