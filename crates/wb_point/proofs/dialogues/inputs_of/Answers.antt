use Rattle.std.proofs.Common.{ℕ, ◌≤◌, ◌++◌, List, take, length, replicate, ap, ◌∙◌, subst}
use Rattle.std.proofs.lemmas.List.{take_all}
use Rattle.wb_port.specs.declared.accesses.Access.{Access}
use Rattle.wb_point.specs.Dialogues.{transfer_bytes, inputs_of}
use Rattle.wb_point.proofs.Transfers.{bytes_noted, inputs_made}
use Rattle.wb_point.proofs.dialogues.inputs_of.Goals as goal

pub loop-access-preserved : goal.loop-access-preserved
loop-access-preserved c =
    bytes_noted c.args.dialogue.now.accesses c.list-access-items.result.now c.loop-access.access-index _ _ _
    c.list-access-items.ensures.value c.loop-access-test.true c.loop-access.invariant c.in_ok-note.ensures

pub returns : goal.returns
returns c =
    inputs_made c.new.result _ _ (inputs_of c.args.dialogue.now)
    (ap (take 16) (c.deref.ensures.value ∙ c.in_ok-extend_from_slice.ensures.items ∙ ap (λ (zs : List ℕ). zs ++ replicate 16 0) (c.loop-access.invariant ∙ ap transfer_bytes (take_all c.loop-access.access-index c.args.dialogue.now.accesses (subst (λ (xs : List Access). length xs ≤ c.loop-access.access-index) c.list-access-items.ensures.value c.loop-access-test.false)))))
    c.start.ensures.value c.new.ensures.bytes c.new.ensures.cells
