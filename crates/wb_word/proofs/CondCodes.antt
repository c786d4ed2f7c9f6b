-- Branch codes and conditions go both ways.
use Rattle.std.proofs.Common.{◌≡◌, ℕ, ◌<◌, Bool, true, false, true≢false, List, [], ◌∷◌, map, find, cond, Some, ◌||◌, ◌==◌, lit<, refl, sym, ap, subst, eqb-true}
use Rattle.std.specs.List.{list_any}
use Rattle.std.specs.Prelude.{unwrap_or}
use Rattle.wb_word.specs.Named.{is_named}
use Rattle.wb_word.specs.Conditions.{cond_code, cond_list, cond_where, cond_at}
use Rattle.wb_word.proofs.SameNumbers.{same_other}
use Rattle.wb_word.specs.declared.conditions.Cond.{Cond}
use Rattle.wb_word.specs.declared.conditions.Cond.TheVariants as conds
use Rattle.wb_word.specs.declared.numbers.OtherCode.{OtherCode}

pub cond_code_lt : (c : Cond) → cond_code c < 512
cond_code_lt (conds.Other other) = other.in_range
cond_code_lt _ = lit< tt

other_where : (other : OtherCode) (within : other.value < 512) (b : Bool) (e : is_named other.value ≡ b) → b ≡ false → cond_where other.value within b e ≡ conds.Other other
other_where other within true e h = absurd (true≢false h)
other_where other within false e h = ap conds.Other (same_other (record { value = other.value; in_range = within; unnamed = e }) other refl)

at_own_code : (c : Cond) (within : cond_code c < 512) → cond_at (cond_code c) within ≡ c
at_own_code (conds.Other other) within = other_where other within (is_named other.value) refl other.unnamed
at_own_code _ within = refl

pub cond_at-code : (c : Cond) (code : ℕ) (within : code < 512) → cond_code c ≡ code → cond_at code within ≡ c
cond_at-code c code within e =
    let P : ℕ → Type 0 = λ n. (h : n < 512) → cond_at n h ≡ c in
    subst P e (at_own_code c) within

-- a code in the list is that of the first condition that has it
found : (xs : List Cond) (code : ℕ) → list_any (λ named. code == named) (map cond_code xs) ≡ true → cond_code (unwrap_or (find (λ c. code == cond_code c) xs) conds.Jmp) ≡ code
found [] code h = absurd (true≢false (sym h))
found (x ∷ xs) code h =
    elim (code == cond_code x) as (λ b. (code == cond_code x) ≡ b → (b || list_any (λ named. code == named) (map cond_code xs)) ≡ true → cond_code (unwrap_or (cond b (Some x) (find (λ c. code == cond_code c) xs)) conds.Jmp) ≡ code) [ true ↦ λ e _. sym (eqb-true code (cond_code x) e) | false ↦ λ _ rest. found xs code rest ] refl h

cond_where-code : (code : ℕ) (within : code < 512) (b : Bool) (e : is_named code ≡ b) → cond_code (cond_where code within b e) ≡ code
cond_where-code code within true e = found cond_list code e
cond_where-code code within false e = refl

pub cond_code-at : (code : ℕ) (within : code < 512) → cond_code (cond_at code within) ≡ code
cond_code-at code within = cond_where-code code within (is_named code) refl
