use Rattle.std.proofs.Common.{length, sym, eq-eqb, arith, nat_eq}
use Rattle.std.proofs.lemmas.List.Sums.{position_or_len_is}
use Rattle.wb_script.proofs.fields.place_of.Goals as goal

pub returns-then-found-byte-clause-place : goal.returns-then-found-byte-clause-place
returns-then-found-byte-clause-place c =
    let byte = c.args.byte in
    sym (position_or_len_is (λ b. nat_eq b byte) c.args.bytes.now c.loop-place.place 0 (omega arith) c.loop-place.invariant (λ _. eq-eqb _ _ c.if-found-byte.true))

pub returns-clause-place : goal.returns-clause-place
returns-clause-place c =
    let byte = c.args.byte in
    let bytes = c.args.bytes.now in
    sym (position_or_len_is (λ b. nat_eq b byte) bytes (length bytes) 0 (omega arith) (λ k below. c.loop-place.invariant k (omega arith)) (λ h. absurd (omega arith)))
