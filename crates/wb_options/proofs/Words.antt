-- Words of a list, one by one.
use Rattle.std.proofs.Common.{◌≡◌, ℕ, ◌+◌, ◌<◌, true, false, List, [], ◌∷◌, ◌++◌, length, get_or, map, take, drop, Option, None, Some, refl, sym, ◌∙◌, ap, subst, Bor}
use Rattle.std.specs.Str.{IsCharBoundary}
use Rattle.std.specs.Option.{option_map}
use Rattle.std.specs.Str.Pattern.{FindsTextPrefix, StripsPrefix}
use Rattle.std.specs.Prelude.{MatchOption}
use Rattle.std.proofs.lemmas.Str.Pattern.{starts_text}
use Rattle.std.proofs.lemmas.List.{map-append, take_more}
use Rattle.std.proofs.lemmas.List.Elements.{filter_map-append}
use Rattle.wb_options.specs.Options.{has_key, value_of, values}

-- what stands after a prefix
pub stripped : (n s : List ℕ) (r : Option (Bor (List ℕ))) → MatchOption r (FindsTextPrefix n s None) (λ x. StripsPrefix (FindsTextPrefix n) s x.now) → option_map (λ v. v.now) r ≡ value_of n s
stripped n s None h = let e : false ≡ has_key n s = starts_text false n s h in rw (sym e) refl
stripped n s (Some x) h =
    let e : true ≡ has_key n s =
    starts_text true n s (h.0, h.1, subst (λ k. IsCharBoundary s k) (sym h.1.0) h.1.2) in
    rw (sym e) (ap Some (h.2 ∙ ap (λ k. drop k s) h.1.0))

module _ {X : Type 0} where
  -- the values of one word more
  pub values_more : (bytes : X → List ℕ) (key : List ℕ) (words : List X) (place : ℕ) (word : X) → place < length words → word ≡ get_or words place word → values key (map bytes (take (place + 1) words)) ≡ values key (map bytes (take place words)) ++ values key (bytes word ∷ [])
  values_more bytes key words place word less found =
      let next : take (place + 1) words ≡ take place words ++ word ∷ [] =
      take_more words place word less ∙ ap (λ w. take place words ++ w ∷ []) (sym found) in
      ap (λ ws. values key (map bytes ws)) next
      ∙ ap (values key) (map-append bytes (take place words) (word ∷ []))
      ∙ filter_map-append (value_of key) (map bytes (take place words)) (bytes word ∷ [])
