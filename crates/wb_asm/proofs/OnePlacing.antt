-- The rules leave one choice of names and placements.
use Rattle.std.proofs.Common.{◌≡◌, ℕ, List, [], ◌∷◌, ◌++◌, Option, Some, None, sym, ap, ◌∙◌, subst}
use Rattle.wb_syntax.specs.declared.spans.Span.{Span}
use Rattle.wb_syntax.specs.declared.statements.Body.{Body}
use Rattle.wb_syntax.specs.declared.statements.Body.TheVariants.{Empty, Op, Rt, Ld, Jump, Org, Dorg, Equ, Words, Dwords}
use Rattle.wb_syntax.specs.declared.statements.Statement.{Statement}
use Rattle.wb_asm.specs.declared.counters.Counters.{Counters}
use Rattle.wb_asm.specs.Value.{Names}
use Rattle.wb_asm.specs.Placing.{Placement, IsLabel, IsEqu, IsProgAfter, IsDromAfter, IsRuled, AreRuled, IsPlacing}

module _ (text : List ℕ) (earlier : Names) (at : Counters) where
  one_label : (body : Body) (label : Option Span) (a b : Names) → IsLabel text earlier at body label a → IsLabel text earlier at body label b → a ≡ b
  one_label body None a b g h = g ∙ sym h
  one_label body (Some label) a b g h = g.1 ∙ sym h.1

  one_equ : (label : Names) (body : Body) (a b : Names) → IsEqu text earlier at label body a → IsEqu text earlier at label body b → a ≡ b
  one_equ label (Equ name x) a b g h = g.1 ∙ sym h.1
  one_equ label Empty a b g h = g ∙ sym h
  one_equ label (Op word) a b g h = g ∙ sym h
  one_equ label (Rt word) a b g h = g ∙ sym h
  one_equ label (Ld dst x) a b g h = g ∙ sym h
  one_equ label (Jump cond x) a b g h = g ∙ sym h
  one_equ label (Org x) a b g h = g ∙ sym h
  one_equ label (Dorg x) a b g h = g ∙ sym h
  one_equ label (Words xs) a b g h = g ∙ sym h
  one_equ label (Dwords xs) a b g h = g ∙ sym h

  pub one_prog : (body : Body) (a b : ℕ) → IsProgAfter text earlier at body a → IsProgAfter text earlier at body b → a ≡ b
  one_prog Empty a b g h = g ∙ sym h
  one_prog (Op word) a b g h = g ∙ sym h
  one_prog (Rt word) a b g h = g ∙ sym h
  one_prog (Ld dst x) a b g h = g ∙ sym h
  one_prog (Jump cond x) a b g h = g ∙ sym h
  one_prog (Org x) a b g h = g ∙ sym h
  one_prog (Dorg x) a b g h = g ∙ sym h
  one_prog (Equ name x) a b g h = g ∙ sym h
  one_prog (Words xs) a b g h = g ∙ sym h
  one_prog (Dwords xs) a b g h = g ∙ sym h

  pub one_drom : (body : Body) (a b : ℕ) → IsDromAfter text earlier at body a → IsDromAfter text earlier at body b → a ≡ b
  one_drom Empty a b g h = g ∙ sym h
  one_drom (Op word) a b g h = g ∙ sym h
  one_drom (Rt word) a b g h = g ∙ sym h
  one_drom (Ld dst x) a b g h = g ∙ sym h
  one_drom (Jump cond x) a b g h = g ∙ sym h
  one_drom (Org x) a b g h = g ∙ sym h
  one_drom (Dorg x) a b g h = g ∙ sym h
  one_drom (Equ name x) a b g h = g ∙ sym h
  one_drom (Words xs) a b g h = g ∙ sym h
  one_drom (Dwords xs) a b g h = g ∙ sym h

counters_at : ℕ → ℕ → Counters
counters_at prog drom = record { prog = prog; drom = drom }

pub same_counters : (a b : Counters) → a.prog ≡ b.prog → a.drom ≡ b.drom → a ≡ b
unfolding counters_at
same_counters a b p d = ap (λ prog. counters_at prog a.drom) p ∙ ap (λ drom. counters_at b.prog drom) d

module _ (text : List ℕ) (statement : Statement) (earlier : Names) (at : Counters) (names other_names : Names) (next other_next : Counters)
    (label other_label equ other_equ : Names) (prog other_prog drom other_drom : List Placement)
    (g : IsRuled text names earlier at next statement label equ prog drom)
    (h : IsRuled text other_names earlier at other_next statement other_label other_equ other_prog other_drom) where
  same_next : next ≡ other_next
  same_next =
      same_counters next other_next
      (one_prog text earlier at statement.body next.prog other_next.prog g.prog_after h.prog_after)
      (one_drom text earlier at statement.body next.drom other_next.drom g.drom_after h.drom_after)

  same_label : label ≡ other_label
  same_label = one_label text earlier at statement.body statement.label label other_label g.labelled h.labelled

  same_equ : equ ≡ other_equ
  same_equ =
      one_equ text earlier at other_label statement.body equ other_equ
      (subst (λ (m : Names). IsEqu text earlier at m statement.body equ) same_label g.equated) h.equated

  same_names : earlier ++ label ++ equ ≡ earlier ++ other_label ++ other_equ
  same_names =
      ap (λ (m : Names). earlier ++ m ++ equ) same_label ∙ ap (λ (m : Names). earlier ++ other_label ++ m) same_equ

moved : (text : List ℕ) (statements : List Statement) (names a b : Names) (at to : Counters) (prog drom : List Placement) → a ≡ b → at ≡ to
    → AreRuled text names a at statements prog drom → AreRuled text names b to statements prog drom
moved text statements names a b at to prog drom e f h =
    subst (λ (n : Names). AreRuled text names n to statements prog drom) e
    (subst (λ (c : Counters). AreRuled text names a c statements prog drom) f h)

one_names : (text : List ℕ) (statements : List Statement) (names other_names earlier : Names) (at : Counters) (prog other_prog drom other_drom : List Placement)
    → AreRuled text names earlier at statements prog drom → AreRuled text other_names earlier at statements other_prog other_drom → names ≡ other_names
one_names text [] names other_names earlier at prog other_prog drom other_drom g h = g.0 ∙ sym h.0
one_names text (statement ∷ statements) names other_names earlier at prog other_prog drom other_drom
    (next, label, equ, own_prog, own_drom, later_prog, later_drom, g, gp, gd, gs)
    (next', label', equ', own_prog', own_drom', later_prog', later_drom', h, hp, hd, hs) =
    one_names text statements names other_names (earlier ++ label' ++ equ') next' later_prog later_prog' later_drom later_drom'
    (moved text statements names (earlier ++ label ++ equ) (earlier ++ label' ++ equ') next next' later_prog later_drom
    (same_names text statement earlier at names other_names next next' label label' equ equ' own_prog own_prog' own_drom own_drom' g h)
    (same_next text statement earlier at names other_names next next' label label' equ equ' own_prog own_prog' own_drom own_drom' g h) gs)
    hs

joined : (a b c d : List Placement) → a ≡ b → c ≡ d → a ++ c ≡ b ++ d
joined a b c d e f = ap (λ (m : List Placement). m ++ c) e ∙ ap (λ (m : List Placement). b ++ m) f

one_placed : (text : List ℕ) (statements : List Statement) (names earlier : Names) (at : Counters) (prog other_prog drom other_drom : List Placement)
    → AreRuled text names earlier at statements prog drom → AreRuled text names earlier at statements other_prog other_drom
    → (prog ≡ other_prog) × (drom ≡ other_drom)
one_placed text [] names earlier at prog other_prog drom other_drom g h = (g.1 ∙ sym h.1, g.2 ∙ sym h.2)
one_placed text (statement ∷ statements) names earlier at prog other_prog drom other_drom
    (next, label, equ, own_prog, own_drom, later_prog, later_drom, g, gp, gd, gs)
    (next', label', equ', own_prog', own_drom', later_prog', later_drom', h, hp, hd, hs) =
    let later = one_placed text statements names (earlier ++ label' ++ equ') next' later_prog later_prog' later_drom later_drom'
    (moved text statements names (earlier ++ label ++ equ) (earlier ++ label' ++ equ') next next' later_prog later_drom
    (same_names text statement earlier at names names next next' label label' equ equ' own_prog own_prog' own_drom own_drom' g h)
    (same_next text statement earlier at names names next next' label label' equ equ' own_prog own_prog' own_drom own_drom' g h) gs)
    hs in (
      gp ∙ joined own_prog own_prog' later_prog later_prog' (g.prog_words ∙ sym h.prog_words) later.0 ∙ sym hp,
      gd ∙ joined own_drom own_drom' later_drom later_drom' (g.drom_words ∙ sym h.drom_words) later.1 ∙ sym hd,
    )

pub one_placing : (text : List ℕ) (statements : List Statement) (names other_names : Names) (prog other_prog drom other_drom : List Placement)
    → IsPlacing text statements names prog drom → IsPlacing text statements other_names other_prog other_drom
    → (names ≡ other_names) × (prog ≡ other_prog) × (drom ≡ other_drom)
one_placing text statements names other_names prog other_prog drom other_drom g h =
    let same = one_names text statements names other_names [] (record { prog = 0; drom = 0 }) prog other_prog drom other_drom g.rules h.rules in
    let placed = one_placed text statements other_names [] (record { prog = 0; drom = 0 }) prog other_prog drom other_drom
    (subst (λ (m : Names). AreRuled text m [] (record { prog = 0; drom = 0 }) statements prog drom) same g.rules) h.rules in
    (same, placed.0, placed.1)
