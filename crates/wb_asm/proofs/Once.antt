-- The rules give no name twice.
use Rattle.std.proofs.Common.{◌≡◌, ◌≢◌, ℕ, ℤ, Bool, true, false, cond, List, [], ◌∷◌, ◌++◌, Option, Some, None, sym, ap, ◌∙◌, subst}
use Rattle.std.specs.Prelude.{pos}
use Rattle.std.specs.Str.{bytes_eq}
use Rattle.std.proofs.lemmas.List.{append-nil}
use Rattle.std.proofs.lemmas.Slice.Eq.{bytes_eq-Decides}
use Rattle.wb_syntax.specs.declared.spans.Span.{Span}
use Rattle.wb_syntax.specs.declared.statements.Body.{Body}
use Rattle.wb_syntax.specs.declared.statements.Body.TheVariants.{Empty, Op, Rt, Ld, Jump, Org, Dorg, Equ, Words, Dwords}
use Rattle.wb_syntax.specs.declared.statements.Statement.{Statement}
use Rattle.wb_asm.specs.declared.counters.Counters.{Counters}
use Rattle.wb_asm.specs.Value.{Names, number_named, name_of, exact}
use Rattle.wb_asm.specs.Words.{here_at}
use Rattle.wb_asm.specs.Placing.{Placement, Each, AreOnce, IsNew, IsLabel, IsEqu, AreRuled, IsPlacing}

not_found : (b : Bool) (number : ℤ) (rest : Option ℤ) → cond b (Some number) rest ≡ None → b ≡ true → ⊥
not_found true number rest h e = cc
not_found false number rest h e = cc

found_later : (b : Bool) (number : ℤ) (rest : Option ℤ) → cond b (Some number) rest ≡ None → rest ≡ None
found_later true number rest h = cc
found_later false number rest h = h

each_added : {X : Type 0} (P : X → Type 0) (xs : List X) (x : X) → Each P xs → P x → Each P (xs ++ x ∷ [])
each_added P [] x h p = (p, tt)
each_added P (y ∷ ys) x h p = (h.0, each_added P ys x h.1 p)

once_added : (names : Names) (name : List ℕ) (number : ℤ) → AreOnce names → IsNew names name → AreOnce (names ++ (name, number) ∷ [])
once_added [] name number once new = (tt, tt)
once_added (entry ∷ names) name number once new = (
  each_added (λ other. other.0 ≢ entry.0) names (name, number) once.0
      (λ same. not_found (bytes_eq name entry.0) entry.1 (number_named names name) new ((bytes_eq-Decides name entry.0).1 same)),
  once_added names name number once.1 (found_later (bytes_eq name entry.0) entry.1 (number_named names name) new),
)

added : (names own : Names) (name : List ℕ) (number : ℤ) → own ≡ (name, number) ∷ [] → AreOnce names → IsNew names name → AreOnce (names ++ own)
added names own name number e once new =
    subst (λ (m : Names). AreOnce (names ++ m)) (sym e) (once_added names name number once new)

none_added : (names own : Names) → own ≡ [] → AreOnce names → AreOnce (names ++ own)
none_added names own e once = subst (λ (m : Names). AreOnce m) (sym (ap (λ (m : Names). names ++ m) e ∙ append-nil names)) once

module _ (text : List ℕ) (earlier : Names) (at : Counters) where
  label_once : (body : Body) (label : Option Span) (own : Names) → IsLabel text earlier at body label own → AreOnce earlier → AreOnce (earlier ++ own)
  label_once body None own h once = none_added earlier own h once
  label_once body (Some label) own h once = added earlier own (name_of text label) (pos (here_at at body)) h.1 once h.0

  equ_once : (label : Names) (body : Body) (own : Names) → IsEqu text earlier at label body own → AreOnce (earlier ++ label) → AreOnce (earlier ++ label ++ own)
  equ_once label Empty own h once = none_added (earlier ++ label) own h once
  equ_once label (Op word) own h once = none_added (earlier ++ label) own h once
  equ_once label (Rt word) own h once = none_added (earlier ++ label) own h once
  equ_once label (Ld dst x) own h once = none_added (earlier ++ label) own h once
  equ_once label (Jump cond x) own h once = none_added (earlier ++ label) own h once
  equ_once label (Org x) own h once = none_added (earlier ++ label) own h once
  equ_once label (Dorg x) own h once = none_added (earlier ++ label) own h once
  equ_once label (Words xs) own h once = none_added (earlier ++ label) own h once
  equ_once label (Dwords xs) own h once = none_added (earlier ++ label) own h once
  equ_once label (Equ name x) own h once = added (earlier ++ label) own (name_of text name) (exact text earlier at.prog x) h.1 once h.0

ruled_once : (text : List ℕ) (statements : List Statement) (names earlier : Names) (at : Counters) (prog drom : List Placement)
    → AreRuled text names earlier at statements prog drom → AreOnce earlier → AreOnce names
ruled_once text [] names earlier at prog drom h once = subst (λ (m : Names). AreOnce m) (sym h.0) once
ruled_once text (statement ∷ statements) names earlier at prog drom
    (next, label, equ, own_prog, own_drom, later_prog, later_drom, g, gp, gd, gs) once =
    ruled_once text statements names (earlier ++ label ++ equ) next later_prog later_drom gs
    (equ_once text earlier at label statement.body equ g.equated (label_once text earlier at statement.body statement.label label g.labelled once))

pub names_once : (text : List ℕ) (statements : List Statement) (names : Names) (prog drom : List Placement)
    → IsPlacing text statements names prog drom → AreOnce names
names_once text statements names prog drom h = ruled_once text statements names [] (record { prog = 0; drom = 0 }) prog drom h.rules tt
