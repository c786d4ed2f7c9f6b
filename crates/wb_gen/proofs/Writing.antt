-- One word more in a program that is being written.
use Rattle.std.proofs.Common.{◌≡◌, ℕ, ◌+◌, ◌-◌, ◌<◌, ◌≤◌, List, length, take, drop, replicate, sym, ap, ◌∙◌, arith}
use Rattle.std.specs.Prelude.{slice_set}
use Rattle.std.proofs.lemmas.List.{drop-set-lt, drop_more, drop-replicate, length-set, length-take-le}

-- what stands after the words, and that there is room for one more
pub record IsLonger (count : ℕ) (prog : List ℕ) : Type 0 where
  pub within : count + 1 ≤ 2048
  pub rest : drop (count + 1) prog ≡ replicate (2048 - (count + 1)) 0

pub one_more : (count word : ℕ) (old new : List ℕ)
    → new ≡ slice_set old count word → length new ≡ 2048 → count ≤ 2048
    → length (take count old) < 2048 → drop count old ≡ replicate (2048 - count) 0 → IsLonger count new
one_more count word old new written len within room rest =
    let size : length old ≡ 2048 = sym (length-set old count word) ∙ (ap length (sym written) ∙ len) in
    let front : length (take count old) ≡ count = length-take-le count old (omega (arith, size)) in
    let less : count < 2048 = omega (arith, front) in
    let after : drop (count + 1) old ≡ replicate (2048 - (count + 1)) 0 =
    ap (drop 1) (sym (drop_more old count 0 (omega (arith, size))))
    ∙ (ap (drop 1) rest
    ∙ (drop-replicate 1 (2048 - count) 0 ∙ ap (λ (n : ℕ). replicate n 0) (let e : 2048 - count - 1 ≡ 2048 - (count + 1) = omega arith in e))) in
    record {
      within = omega arith;
      rest = ap (drop (count + 1)) written ∙ (drop-set-lt (count + 1) old count word (omega arith) ∙ after);
    }
