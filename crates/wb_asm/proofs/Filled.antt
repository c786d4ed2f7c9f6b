-- The words of a `.word`, put into the program memory.
use Rattle.std.proofs.Common.{◌≡◌, ℕ, List, map, Option, Some, None, Result, Ok, Err, MatchResult, refl, sym, ap, ◌∙◌, subst, replicate}
use Rattle.std.specs.Option.{option_or}
use Rattle.wb_rom.specs.declared.images.Image.{Image}
use Rattle.wb_syntax.specs.Tree.{Tree}
use Rattle.wb_syntax.specs.declared.statements.Body.{Body}
use Rattle.wb_syntax.specs.declared.statements.Body.TheVariants.{Words}
use Rattle.wb_syntax.specs.declared.statements.Statement.{Statement}
use Rattle.wb_asm.specs.declared.counters.Counters.{Counters}
use Rattle.wb_asm.specs.declared.faults.AsmKind.{AsmKind}
use Rattle.wb_asm.specs.Filling.{HasProg, IsFilled}
use Rattle.wb_asm.specs.Value.{Names}
use Rattle.wb_asm.specs.Words.{Plain, content_fault, content_word, first_of, with_words_at, values_fault, prog_with, drom_with, prog_filled, drom_filled}
use Rattle.wb_asm.specs.Assembly.{zeros}

or_none : (fault : Option AsmKind) → option_or fault None ≡ fault
or_none None = refl
or_none (Some kind) = refl

module _ (text : List ℕ) (names : Names) (at : Counters) (xs : List Tree) where
  words_fault : values_fault text names at (Words xs) ≡ first_of (map (content_fault text names at.prog) (map Plain xs))
  unfolding values_fault
  words_fault = or_none _

  words_filled : (before now : Image) → HasProg before now (with_words_at before.prog at.prog (map (content_word text names at.prog) (map Plain xs)))
      → IsFilled text names before now at (Words xs)
  unfolding prog_with drom_with
  words_filled before now h = record { prog = h.prog; drom = h.drom }

-- what is known of the values of the expressions, said of the statement
pub words_outcome : (text : List ℕ) (names : Names) (at : Counters) (body : Body) (xs : List Tree) (before now : Image)
    (result : Result (Unit {0}) AsmKind) → body ≡ Words xs
    → MatchResult result
    (λ _. (first_of (map (content_fault text names at.prog) (map Plain xs)) ≡ None)
    × HasProg before now (with_words_at before.prog at.prog (map (content_word text names at.prog) (map Plain xs))))
    (λ kind. first_of (map (content_fault text names at.prog) (map Plain xs)) ≡ Some kind)
    → MatchResult result
    (λ _. (values_fault text names at body ≡ None) × IsFilled text names before now at body)
    (λ kind. values_fault text names at body ≡ Some kind)
words_outcome text names at body xs before now (Ok done) is h =
    subst (λ (b : Body). (values_fault text names at b ≡ None) × IsFilled text names before now at b) (sym is)
    (words_fault text names at xs ∙ h.0, words_filled text names at xs before now h.1)
words_outcome text names at body xs before now (Err kind) is h =
    subst (λ (b : Body). values_fault text names at b ≡ Some kind) (sym is) (words_fault text names at xs ∙ h)

pub zeros_is : (size : ℕ) → replicate size 0 ≡ zeros size
unfolding zeros
zeros_is size = refl

-- the same memory, by equal names, counters and zeros
pub prog_filled_same : (text : List ℕ) (statements : List Statement) (prog zero all : List ℕ) (names all_names : Names) (before all_before : List Counters)
    → prog ≡ prog_filled text names zero statements before → names ≡ all_names → zero ≡ all → before ≡ all_before
    → prog ≡ prog_filled text all_names all statements all_before
prog_filled_same text statements prog zero all names all_names before all_before e n z b =
    e ∙ ap (λ (m : Names). prog_filled text m zero statements before) n ∙ ap (λ (m : List ℕ). prog_filled text all_names m statements before) z
    ∙ ap (λ (m : List Counters). prog_filled text all_names all statements m) b

pub drom_filled_same : (text : List ℕ) (statements : List Statement) (drom zero all : List ℕ) (names all_names : Names) (before all_before : List Counters)
    → drom ≡ drom_filled text names zero statements before → names ≡ all_names → zero ≡ all → before ≡ all_before
    → drom ≡ drom_filled text all_names all statements all_before
drom_filled_same text statements drom zero all names all_names before all_before e n z b =
    e ∙ ap (λ (m : Names). drom_filled text m zero statements before) n ∙ ap (λ (m : List ℕ). drom_filled text all_names m statements before) z
    ∙ ap (λ (m : List Counters). drom_filled text all_names all statements m) b
