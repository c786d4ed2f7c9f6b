-- Which branch codes name a condition.
use Rattle.std.specs.Prelude.{ℕ, Bool, List, [], ◌∷◌, ◌==◌}
use Rattle.std.specs.List.{list_any}

-- the codes that name a condition
abbrev pub named_codes : List ℕ
named_codes =
    128 ∷ 130 ∷ 132 ∷ 134 ∷ 136 ∷ 138 ∷ 140 ∷ 142 ∷ 144 ∷ 146 ∷ 148 ∷ 150 ∷ 152 ∷ 154 ∷ 156 ∷ 158 ∷
    160 ∷ 162 ∷ 164 ∷ 166 ∷ 168 ∷ 170 ∷ 172 ∷ 174 ∷ 176 ∷ 177 ∷ 178 ∷ 179 ∷ 180 ∷ 182 ∷ 184 ∷ 186 ∷
    188 ∷ 190 ∷ 256 ∷ 320 ∷ []

abbrev pub is_named : ℕ → Bool
is_named code = list_any (λ named. code == named) named_codes
