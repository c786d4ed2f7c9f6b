use Rattle.std.proofs.Common.{◌≡◌, Option, List, [], length, sym, subst, ◌∙◌, rules}
use Rattle.wb_solve.specs.declared.search.Answer.{Answer}
use Rattle.wb_explore.specs.declared.budget.Budget.{Budget}
use Rattle.wb_explore.specs.declared.entries.Entry.{Entry}
use Rattle.wb_explore.specs.Growth.{HasRoom}
use Rattle.wb_explore.specs.Faults.{IsLastAnswer, StillTells}
use Rattle.wb_explore.specs.Pending.{found_in}
use Rattle.wb_explore.specs.Walk.{IsUnderWay, ComesNearer}
use Rattle.wb_explore.proofs.Causes.{cause_later, bad_answer, last_later, tells_on}
use Rattle.wb_explore.proofs.Onward.{adds_passed}
use Rattle.wb_explore.proofs.Turning.{room_on, grows_at, so_further, explored}
use Rattle.wb_explore.proofs.walking.walk.Goals as goal

pub turn-requires-clause-room : goal.turn-requires-clause-room
turn-requires-clause-room g c =
    subst (λ (x : Budget). HasRoom c.turns.graph (length c.turns.purse.reached) x.points (found_in c.turns.pending.items)) (sym c.turns.invariant.0.budget)
    (room_on c.args.graph.now c.turns.graph (length c.args.purse.now.reached) (length c.turns.purse.reached) c.args.purse.now.budget.points (found_in c.turns.pending.items) (found_in c.args.pending.items) c.requires.room c.turns.invariant.0.counted)

pub returns-in_err-turn-clause-cause : goal.returns-in_err-turn-clause-cause
returns-in_err-turn-clause-cause g c =
    let u = cause_later c.args.image.now c.args.plan (g.O.Oracle.is_sound c.turns.oracle) (g.O.Oracle.is_sound c.args.oracle.now) c.args.purse.now c.turns.purse c.turns.invariant.0.passed c.turns.invariant.0.budget c.turns.invariant.1.sound _ c.in_err-turn.ensures.cause in
    search rules

pub returns-in_err-turn-clause-last : goal.returns-in_err-turn-clause-last
returns-in_err-turn-clause-last g c =
    let u = bad_answer (IsLastAnswer (g.O.Oracle.held c.turns.oracle) (g.O.Oracle.given c.turns.oracle) (g.O.Oracle.given c.turn.new.oracle)) (IsLastAnswer (g.O.Oracle.held c.args.oracle.now) (g.O.Oracle.given c.args.oracle.now) (g.O.Oracle.given c.turn.new.oracle))
    (λ x a v. last_later (g.O.Oracle.held c.args.oracle.now) (g.O.Oracle.given c.args.oracle.now) (g.O.Oracle.given c.turns.oracle) (g.O.Oracle.given c.turn.new.oracle) c.turns.invariant.1.tells x a (subst (λ (h : Option (List Answer)). IsLastAnswer h (g.O.Oracle.given c.turns.oracle) (g.O.Oracle.given c.turn.new.oracle) x a) c.turns.invariant.1.held v))
    _ c.in_err-turn.ensures.last in
    search rules

pub returns-in_err-turn-clause-passed : goal.returns-in_err-turn-clause-passed
returns-in_err-turn-clause-passed g c = adds_passed c.args.image.now c.args.plan c.args.purse.now.reached c.turns.purse.reached c.turn.new.purse.reached c.turns.invariant.0.passed c.turn.ensures.passed

pub returns-in_err-turn-clause-grows : goal.returns-in_err-turn-clause-grows
returns-in_err-turn-clause-grows g c = grows_at c.args.graph.now c.turns.graph c.turn.new.graph (length c.args.purse.now.reached) (length c.turns.purse.reached) (length c.turn.new.purse.reached) (found_in c.turns.pending.items) (found_in c.args.pending.items) c.turns.invariant.0.counted c.turn.ensures.grows

pub turns-preserved : goal.turns-preserved
turns-preserved g c = (
  so_further c.args.image.now c.args.plan c.args.graph.now c.turns.graph c.turn.new.graph c.args.purse.now c.turns.purse c.turn.new.purse c.args.pending.items c.turns.pending.items c.turn.new.pending.items c.turns.findings.requests.items c.turn.new.findings.requests.items c.args.overrun c.turns.findings.overrun c.turn.new.findings.overrun c.turns.invariant.0
      c.in_ok-turn.ensures.under_way c.in_ok-turn.ensures.older c.in_ok-turn.ensures.counted c.turn.ensures.passed c.turn.ensures.budget c.turn.ensures.grown,
  record {
    sound = c.turn.ensures.sound ∙ c.turns.invariant.1.sound;
    limit = c.turn.ensures.limit ∙ c.turns.invariant.1.limit;
    held = c.turn.ensures.held ∙ c.turns.invariant.1.held;
    tells = tells_on (g.O.Oracle.held c.args.oracle.now) (g.O.Oracle.given c.args.oracle.now) (g.O.Oracle.given c.turns.oracle) (g.O.Oracle.given c.turn.new.oracle) c.turns.invariant.1.tells (subst (λ (h : Option (List Answer)). StillTells h (g.O.Oracle.given c.turns.oracle) (g.O.Oracle.given c.turn.new.oracle)) c.turns.invariant.1.held c.in_ok-turn.ensures.tells);
  },
)

pub returns-clause-explored : goal.returns-clause-explored
returns-clause-explored g c =
    let none : c.turn.new.pending.items ≡ [] = subst (ComesNearer c.turns.purse.budget.points c.turns.purse.reached c.turn.new.purse.reached c.turns.pending.items c.turn.new.pending.items) c.if-branch.false c.in_ok-turn.ensures.nearer in
    explored c.held_laws.ensures c.args.image.now c.args.plan c.turn.new.graph c.turn.new.purse.reached c.turn.new.findings.requests.items c.turn.new.findings.overrun
    (subst (λ (es : List Entry). IsUnderWay c.turn.new.graph c.args.image.now c.args.plan c.turn.new.purse.reached es c.turn.new.findings.requests.items c.turn.new.findings.overrun) none c.in_ok-turn.ensures.under_way)

pub returns-clause-passed : goal.returns-clause-passed
returns-clause-passed g c = adds_passed c.args.image.now c.args.plan c.args.purse.now.reached c.turns.purse.reached c.turn.new.purse.reached c.turns.invariant.0.passed c.turn.ensures.passed

pub returns-clause-grows : goal.returns-clause-grows
returns-clause-grows g c = grows_at c.args.graph.now c.turns.graph c.turn.new.graph (length c.args.purse.now.reached) (length c.turns.purse.reached) (length c.turn.new.purse.reached) (found_in c.turns.pending.items) (found_in c.args.pending.items) c.turns.invariant.0.counted c.turn.ensures.grows
