-- Letters, one by one.
use Rattle.std.proofs.Common.{◌≡◌, ℕ, ◌+◌, ◌<◌, ◌≤◌, replicate, List, [], ◌∷◌, ◌++◌, length, take, drop, Option, None, Some, refl, sym, ◌∙◌, ap, append_assoc}
use Rattle.std.specs.Option.{option_map}
use Rattle.std.specs.List.{slice_set}
use Rattle.std.proofs.lemmas.List.{take_more_set, take-replicate}
use Rattle.wb_port.specs.declared.accesses.Letter.{Letter}
use Rattle.wb_port.specs.declared.accesses.Letter.TheVariants as letter
use Rattle.wb_options.specs.Questions.{letter_of, letters_of, before}

-- one letter more before the rest
joined : (front : List Letter) (letter : Letter) (rest : Option (List Letter)) → option_map (λ ls. front ++ ls) (before (Some letter) rest) ≡ option_map (λ ls. (front ++ letter ∷ []) ++ ls) rest
joined front letter None = refl
joined front letter (Some ls) = ap Some (sym (append_assoc front (letter ∷ []) ls))

pub letter_more : (bytes : List ℕ) (place byte : ℕ) (letters : List Letter) (letter : Letter) (whole : Option (List Letter)) → drop place bytes ≡ byte ∷ drop (place + 1) bytes → letter_of byte ≡ Some letter → place < length letters → whole ≡ option_map (λ ls. take place letters ++ ls) (letters_of (drop place bytes)) → whole ≡ option_map (λ ls. take (place + 1) (slice_set letters place letter) ++ ls) (letters_of (drop (place + 1) bytes))
letter_more bytes place byte letters letter whole next is less so_far =
    so_far
    ∙ ap (λ bs. option_map (λ ls. take place letters ++ ls) (letters_of bs)) next
    ∙ ap (λ l. option_map (λ ls. take place letters ++ ls) (before l (letters_of (drop (place + 1) bytes)))) is
    ∙ joined (take place letters) letter (letters_of (drop (place + 1) bytes))
    ∙ ap (λ front. option_map (λ ls. front ++ ls) (letters_of (drop (place + 1) bytes))) (sym (take_more_set letters place letter less))

-- so many of sixteen letters that allow any transfer
pub any_letters : (m n : ℕ) → m ≡ n → n ≤ 16 → take m (letter.X ∷ letter.X ∷ letter.X ∷ letter.X ∷ letter.X ∷ letter.X ∷ letter.X ∷ letter.X ∷ letter.X ∷ letter.X ∷ letter.X ∷ letter.X ∷ letter.X ∷ letter.X ∷ letter.X ∷ letter.X ∷ []) ≡ replicate n letter.X
any_letters m n e few = ap (λ k. take k (replicate 16 letter.X)) e ∙ take-replicate n 16 letter.X few
