-- Each verdict has one text.
use Rattle.std.proofs.Common.{◌≡◌, ℕ, true, false, List, ◌++◌, sym, ◌∙◌, ap}
use Rattle.std.specs.Prelude.{codes}
use Rattle.wb_rom.specs.declared.images.Image.{Image}
use Rattle.wb_port.specs.Talk.{Talk}
use Rattle.wb_port.specs.Run.{Moment, turns, beginning}
use Rattle.wb_port.specs.Points.{image_of}
use Rattle.wb_compare.specs.declared.verdicts.Pace.TheVariants as pace
use Rattle.wb_compare.specs.declared.verdicts.Spent.TheVariants as spent
use Rattle.wb_compare.specs.declared.verdicts.Verdict.TheVariants as verdict
use Rattle.wb_report.specs.Digits.{with_feed}
use Rattle.wb_report.specs.Dialogues.{dialogue_text}
use Rattle.wb_report.specs.declared.heard.Heard.TheVariants as heard
use Rattle.wb_report.specs.Verdicts.{Begins, IsHeldText, IsDifferenceText, heading, overrun_line, breach_line}
use Rattle.wb_report.specs.Laws.{RunsSayOneThing, VerdictsHaveOneText}
use Rattle.wb_report.proofs.Moments.{stuck, swap}

pub one_said : RunsSayOneThing
one_said image k held d these those s t =
    let m : Moment = turns image k held s.count (beginning d) in
    let n : Moment = turns image k held t.count (beginning d) in
    let same : m ≡ n =
    sym (stuck image k held t.count m s.end s.ends)
    ∙ swap image k held t.count s.count (beginning d)
    ∙ stuck image k held s.count n t.end t.ends in
    sym s.said ∙ ap (λ (x : Moment). x.said) same ∙ t.said

-- a property that one list has at most
abbrev Sole : (List ℕ → Type 0) → Type 0
Sole P = (this that : List ℕ) → P this → P that → this ≡ that

begins : (line : List ℕ) (P : List ℕ → Type 0) → Sole P → Sole (Begins line P)
begins line P sole this that h i =
    h.parts ∙ ap (λ xs. with_feed line ++ xs) (sole h.rest i.rest h.holds i.holds) ∙ sym i.parts

held : (image : Image) (k : ℕ) (d : Talk) → Sole (IsHeldText image k d)
held image k d this that h i =
    let same : h.said ≡ i.said = one_said image k true d h.said i.said h.says i.says in
    h.lines ∙ ap (λ xs. dialogue_text (heard.One xs) d ++ with_feed (codes "HOLD")) same ∙ sym i.lines

difference : (a b : Image) (k : ℕ) (d : Talk) → Sole (IsDifferenceText a b k d)
difference a b k d this that h i =
    let first : h.first ≡ i.first = one_said a k false d h.first i.first h.first_says i.first_says in
    let second : h.second ≡ i.second = one_said b k false d h.second i.second h.second_says i.second_says in
    h.lines
    ∙ ap (λ xs. dialogue_text (heard.Both xs h.second) d) first
    ∙ ap (λ xs. dialogue_text (heard.Both i.first xs) d) second
    ∙ sym i.lines

pub one_text : VerdictsHaveOneText
one_text a b q (verdict.Equal pace.Kept) this that h i = h ∙ sym i
one_text a b q (verdict.Equal (pace.Overrun s d)) this that h i =
    let P : List ℕ → Type 0 = IsHeldText (image_of a b s) q.k d in
    begins (heading (codes "EQUAL ") q) (Begins (overrun_line s) P) (begins (overrun_line s) P (held (image_of a b s) q.k d)) this that h i
one_text a b q (verdict.Different d) this that h i =
    begins (heading (codes "DIFFERENT ") q) (IsDifferenceText a b q.k d) (difference a b q.k d) this that h i
one_text a b q (verdict.Breach s d at) this that h i =
    begins (breach_line s at.value) (IsHeldText (image_of a b s) q.k d) (held (image_of a b s) q.k d) this that h i
one_text a b q (verdict.Unknown (spent.Points list)) this that h i = h ∙ sym i
one_text a b q (verdict.Unknown (spent.Conflicts asked steps)) this that h i = h ∙ sym i
