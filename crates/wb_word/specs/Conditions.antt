-- The branch codes. 36 codes name a condition, and each other code below 512 is a condition that never holds.
use Rattle.std.specs.Prelude.{◌≡◌, ℕ, ◌<◌, Bool, true, false, List, [], ◌∷◌, find, unwrap_or, ◌==◌, refl}
use Rattle.wb_word.specs.Named.{is_named}
use Rattle.wb_word.specs.declared.conditions.Cond.{Cond}
use Rattle.wb_word.specs.declared.conditions.Cond.TheVariants as cond

abbrev pub cond_code : Cond → ℕ
cond_code cond.Jnca = 128
cond_code cond.Jca = 130
cond_code cond.Jncb = 132
cond_code cond.Jcb = 134
cond_code cond.Jnza = 136
cond_code cond.Jza = 138
cond_code cond.Jnzb = 140
cond_code cond.Jzb = 142
cond_code cond.Jnova0 = 144
cond_code cond.Jova0 = 146
cond_code cond.Jnovb0 = 148
cond_code cond.Jovb0 = 150
cond_code cond.Jnova1 = 152
cond_code cond.Jova1 = 154
cond_code cond.Jnovb1 = 156
cond_code cond.Jovb1 = 158
cond_code cond.Jnsa0 = 160
cond_code cond.Jsa0 = 162
cond_code cond.Jnsb0 = 164
cond_code cond.Jsb0 = 166
cond_code cond.Jnsa1 = 168
cond_code cond.Jsa1 = 170
cond_code cond.Jnsb1 = 172
cond_code cond.Jsb1 = 174
cond_code cond.Jdpl0 = 176
cond_code cond.Jdpln0 = 177
cond_code cond.Jdplf = 178
cond_code cond.Jdplnf = 179
cond_code cond.Jnsiak = 180
cond_code cond.Jsiak = 182
cond_code cond.Jnsoak = 184
cond_code cond.Jsoak = 186
cond_code cond.Jnrqm = 188
cond_code cond.Jrqm = 190
cond_code cond.Jmp = 256
cond_code cond.Call = 320
cond_code (cond.Other other) = other.value

-- the conditions with a name
abbrev pub cond_list : List Cond
cond_list =
    cond.Jnca ∷ cond.Jca ∷ cond.Jncb ∷ cond.Jcb ∷ cond.Jnza ∷ cond.Jza ∷ cond.Jnzb ∷ cond.Jzb ∷
    cond.Jnova0 ∷ cond.Jova0 ∷ cond.Jnovb0 ∷ cond.Jovb0 ∷ cond.Jnova1 ∷ cond.Jova1 ∷ cond.Jnovb1 ∷
    cond.Jovb1 ∷ cond.Jnsa0 ∷ cond.Jsa0 ∷ cond.Jnsb0 ∷ cond.Jsb0 ∷ cond.Jnsa1 ∷ cond.Jsa1 ∷
    cond.Jnsb1 ∷ cond.Jsb1 ∷ cond.Jdpl0 ∷ cond.Jdpln0 ∷ cond.Jdplf ∷ cond.Jdplnf ∷ cond.Jnsiak ∷
    cond.Jsiak ∷ cond.Jnsoak ∷ cond.Jsoak ∷ cond.Jnrqm ∷ cond.Jrqm ∷ cond.Jmp ∷ cond.Call ∷ []

-- the condition with this code, where the code names one
abbrev pub named_at : ℕ → Cond
named_at code = unwrap_or (find (λ c. code == cond_code c) cond_list) cond.Jmp

-- the condition with this code, where it is known whether the code names one
abbrev pub cond_where : (code : ℕ) → code < 512 → (b : Bool) → is_named code ≡ b → Cond
cond_where code within true named = named_at code
cond_where code within false unnamed =
    cond.Other (record { value = code; in_range = within; unnamed = unnamed })

abbrev pub cond_at : (code : ℕ) → code < 512 → Cond
cond_at code within = cond_where code within (is_named code) refl
