use Rattle.std.proofs.Common.{sym, subst}
use Rattle.wb_gate.specs.declared.gates.Gate.TheVariants.{And, Xor, Mux, Maj}
use Rattle.wb_gate.specs.Clauses.{gate_clauses}
use Rattle.wb_solve.specs.Trails.{made}
use Rattle.wb_solve.specs.Judging.{IsFound}
use Rattle.wb_solve.proofs.Quiet.{same_three, same_four}
use Rattle.wb_solve.proofs.judging.judge.Goals as goal

pub returns-in-And : goal.returns-in-And
returns-in-And c =
    let p = made c.args.trail.now.entries in
    let whole = c.judge_and.ensures p c.see-g.ensures.seen c.see.ensures.seen c.see-in-And.ensures.seen in
    let here = same_three (λ g x y. IsFound p 0 (gate_clauses g (And x y)) c.judge_and.result) c.see-g.result.lit c.see.result.lit c.see-in-And.result.lit c.args.g c.in-And.x c.in-And.y c.see-g.ensures.lit c.see.ensures.lit c.see-in-And.ensures.lit whole in
    subst (λ gate. IsFound p 0 (gate_clauses c.args.g gate) c.judge_and.result) (sym c.in-And.is) here

pub returns-in-Xor : goal.returns-in-Xor
returns-in-Xor c =
    let p = made c.args.trail.now.entries in
    let whole = c.judge_xor.ensures p c.see-g.ensures.seen c.see-in-Xor.ensures.seen c.see-in-Xor-2.ensures.seen in
    let here = same_three (λ g x y. IsFound p 0 (gate_clauses g (Xor x y)) c.judge_xor.result) c.see-g.result.lit c.see-in-Xor.result.lit c.see-in-Xor-2.result.lit c.args.g c.in-Xor.x c.in-Xor.y c.see-g.ensures.lit c.see-in-Xor.ensures.lit c.see-in-Xor-2.ensures.lit whole in
    subst (λ gate. IsFound p 0 (gate_clauses c.args.g gate) c.judge_xor.result) (sym c.in-Xor.is) here

pub returns-in-Mux : goal.returns-in-Mux
returns-in-Mux c =
    let p = made c.args.trail.now.entries in
    let whole = c.judge_mux.ensures p c.see-g.ensures.seen c.see-in-Mux.ensures.seen c.see-in-Mux-2.ensures.seen c.see-in-Mux-3.ensures.seen in
    let here = same_four (λ g s x y. IsFound p 0 (gate_clauses g (Mux s x y)) c.judge_mux.result) c.see-g.result.lit c.see-in-Mux.result.lit c.see-in-Mux-2.result.lit c.see-in-Mux-3.result.lit c.args.g c.in-Mux.c c.in-Mux.x c.in-Mux.y c.see-g.ensures.lit c.see-in-Mux.ensures.lit c.see-in-Mux-2.ensures.lit c.see-in-Mux-3.ensures.lit whole in
    subst (λ gate. IsFound p 0 (gate_clauses c.args.g gate) c.judge_mux.result) (sym c.in-Mux.is) here

pub returns-in-Maj : goal.returns-in-Maj
returns-in-Maj c =
    let p = made c.args.trail.now.entries in
    let whole = c.judge_maj.ensures p c.see-g.ensures.seen c.see-in-Maj.ensures.seen c.see-in-Maj-2.ensures.seen c.see-in-Maj-3.ensures.seen in
    let here = same_four (λ g x y z. IsFound p 0 (gate_clauses g (Maj x y z)) c.judge_maj.result) c.see-g.result.lit c.see-in-Maj.result.lit c.see-in-Maj-2.result.lit c.see-in-Maj-3.result.lit c.args.g c.in-Maj.x c.in-Maj.y c.in-Maj.z c.see-g.ensures.lit c.see-in-Maj.ensures.lit c.see-in-Maj-2.ensures.lit c.see-in-Maj-3.ensures.lit whole in
    subst (λ gate. IsFound p 0 (gate_clauses c.args.g gate) c.judge_maj.result) (sym c.in-Maj.is) here
