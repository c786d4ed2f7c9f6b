-- The bytes that a source may have outside its comments.
use Rattle.std.specs.Prelude.{ℕ, Bool, ◌||◌, ◌==◌, codes}
use Rattle.std.specs.List.{list_any}
use Rattle.std.specs.Char.{is_ascii_alphanumeric}

-- a space or a tab
abbrev pub is_blank : ℕ → Bool
is_blank byte = byte == 32 || byte == 9

-- a letter, a digit or `_`: what a word goes on with
abbrev pub is_word_character : ℕ → Bool
is_word_character byte = is_ascii_alphanumeric byte || byte == 95

-- what a word begins with: one of these, or a full stop
abbrev pub begins_word : ℕ → Bool
begins_word byte = is_word_character byte || byte == 46

-- a byte that is a token by itself
abbrev pub is_mark : ℕ → Bool
is_mark byte = list_any (λ mark. byte == mark) (codes ":,|+-*()$")
