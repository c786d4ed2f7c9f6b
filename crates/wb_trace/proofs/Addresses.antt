-- An address is the one of its number.
use Rattle.std.proofs.Common.{◌≡◌, ℕ, ◌<◌, ap, subst, arith}
use Rattle.std.specs.Coded.{le_prop}
use Rattle.wb_word.specs.Encoding.{addr_at}
use Rattle.wb_word.specs.declared.numbers.Addr.{Addr}

same_number : (m n : ℕ) (h : m < 2048) (k : n < 2048) → m ≡ n → (let x : Addr = record { value = m; in_range = h } in x) ≡ record { value = n; in_range = k }
same_number m n h k e =
    let at : (i : ℕ) → i < 2048 → Addr = λ i l. record { value = i; in_range = l } in
    let P : ℕ → Type 0 = λ i. (l : i < 2048) → at m h ≡ at i l in
    subst P e (λ l. ap (at m) (le_prop h l)) k

pub addr_is : (at : Addr) → addr_at at.value ≡ at
addr_is at =
    same_number (addr_at at.value).value at.value (addr_at at.value).in_range at.in_range
    (let h : at.value < 2048 = at.in_range in omega arith)
