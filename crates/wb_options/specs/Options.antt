-- Options: words of a key, which ends with `=`, and a value. They stand in any order, each key once at most.
use Rattle.std.specs.Prelude.{◌≡◌, ◌≤◌, ℕ, Bool, ◌||◌, List, [], ◌∷◌, length, drop, codes, nat_eq, if◌then◌else◌}
use Rattle.std.specs.List.{filter_map, starts_with}
use Rattle.std.specs.declared.option.Option.{Option}
use Rattle.std.specs.declared.option.Option.TheVariants.{Some, None}
use Rattle.wb_options.specs.declared.options.Given.{Given}
use Rattle.wb_options.specs.declared.options.Given.TheVariants as given

abbrev pub shape_key : List ℕ
shape_key = codes "shape="

abbrev pub points_key : List ℕ
points_key = codes "points="

abbrev pub conflicts_key : List ℕ
conflicts_key = codes "conflicts="

abbrev pub power_key : List ℕ
power_key = codes "power="

-- the word begins with the key
abbrev pub has_key : List ℕ → List ℕ → Bool
has_key key word = starts_with nat_eq word key

abbrev pub is_option : List ℕ → Bool
is_option word = has_key shape_key word || (has_key points_key word || (has_key conflicts_key word || has_key power_key word))

-- what stands after the key in a word that begins with it
abbrev pub value_of : List ℕ → List ℕ → Option (List ℕ)
value_of key word = if has_key key word then Some (drop (length key) word) else None

-- the values that some words give to a key, in order
abbrev pub values : List ℕ → List (List ℕ) → List (List ℕ)
values key words = filter_map (value_of key) words

-- what a key is given by its values: nothing, one value, or more than that
abbrev pub IsGiven : List (List ℕ) → Given → Type 0
IsGiven values given.Never = values ≡ []
IsGiven values (given.Once value) = values ≡ value.now ∷ []
IsGiven values given.Twice = 2 ≤ length values

-- what the values of a key say, which is given once at most: this where it isn't given, and nothing where its value
-- says nothing
abbrev pub said_once : {A : Type 0} → (List ℕ → Option A) → A → List (List ℕ) → Option A
said_once read default [] = Some default
said_once read default (value ∷ []) = read value
said_once read default (_ ∷ _ ∷ _) = None
