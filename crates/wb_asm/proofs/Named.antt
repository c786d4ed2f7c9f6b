-- The entries of a map by slices, as names and numbers.
use Rattle.std.proofs.Common.{◌≡◌, ℕ, ℤ, cond, List, [], ◌∷◌, ◌++◌, map, Some, None, refl, sym, ap, ◌∙◌}
use Rattle.std.proofs.lemmas.List.{map-append}
use Rattle.std.specs.Borrow.{Bor}
use Rattle.std.specs.Map.{lookup}
use Rattle.std.specs.Str.{bytes_eq}
use Rattle.indexmap.specs.IndexMap.{IndexMap, insert_entry}
use Rattle.indexmap.proofs.CallerLemmas.{insert_entry-new}
use Rattle.wb_asm.specs.Value.{Names, number_named}

abbrev pub seen : List (Bor (List ℕ) × ℤ) → Names
seen entries = map (λ entry. (entry.0.now, entry.1)) entries

pub lookup_seen : (name : List ℕ) (entries : List (Bor (List ℕ) × ℤ))
    → number_named (seen entries) name ≡ lookup (λ known. bytes_eq name known.now) entries
lookup_seen name [] = refl
lookup_seen name (entry ∷ entries) =
    ap (λ rest. cond (bytes_eq name entry.0.now) (Some entry.1) rest) (lookup_seen name entries)

-- a new name stands last
pub seen_added : {S : Type 0} (m : IndexMap (Bor (List ℕ)) ℤ S) (key : Bor (List ℕ)) (number : ℤ)
    → number_named (seen m.entries) key.now ≡ None
    → seen (insert_entry (λ a b. bytes_eq a.now b.now) m.entries key number) ≡ seen m.entries ++ (key.now, number) ∷ []
seen_added m key number none =
    ap seen (insert_entry-new (λ a b. bytes_eq a.now b.now) m key number (sym (lookup_seen key.now m.entries) ∙ none))
    ∙ map-append (λ entry. (entry.0.now, entry.1)) m.entries ((key, number) ∷ [])
