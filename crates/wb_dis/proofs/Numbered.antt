-- Lines of words that stand one after the other.
use Rattle.std.proofs.Common.{◌≡◌, ℕ, zero, suc, ◌+◌, ◌<◌, List, [], ◌∷◌, ◌++◌, length, take, get_or, sym, ap, ◌∙◌, arith, append_assoc, append-nil, add-one, add-zero, zero-add, subst}
use Rattle.wb_dis.specs.Listing.{lines_from}

-- one line more
pub lines_more : (line : ℕ → ℕ → List ℕ) (at : ℕ) (words : List ℕ) (k : ℕ) → k < length words
    → lines_from line at (take (k + 1) words) ≡ lines_from line at (take k words) ++ line (at + k) (get_or words k 0)
lines_more line at [] k h = absurd (omega arith)
lines_more line at (word ∷ words) zero h = rw (append-nil, add-zero)
lines_more line at (word ∷ words) (suc k) h =
    let within : k < length words = omega arith in
    let place : at + 1 + k ≡ at + suc k = omega arith in
    let rest : lines_from line (at + 1) (take (suc k) words) ≡ lines_from line (at + 1) (take k words) ++ line (at + suc k) (get_or words k 0) =
    subst (λ n. lines_from line (at + 1) (take n words) ≡ lines_from line (at + 1) (take k words) ++ line (at + suc k) (get_or words k 0)) (add-one k)
    (lines_more line (at + 1) words k within ∙ ap (λ n. lines_from line (at + 1) (take k words) ++ line n (get_or words k 0)) place) in
    rw (add-one, rest) (sym (append_assoc (line at word) _ _))

-- a text that has grown by one line
pub line_appended : (line : ℕ → ℕ → List ℕ) (words : List ℕ) (k word : ℕ) (start old piece next : List ℕ)
    → k < length words → old ≡ start ++ lines_from line 0 (take k words) → piece ≡ line k word
    → word ≡ get_or words k 0 → next ≡ old ++ piece → next ≡ start ++ lines_from line 0 (take (k + 1) words)
line_appended line words k word start old piece next h e0 e1 e2 e3 =
    rw (e3, e0, e1, e2, lines_more line 0 words k h, zero-add) (append_assoc start (lines_from line 0 (take k words)) (line k (get_or words k 0)))
