use Rattle.std.proofs.Common.{◌<◌, get_or, ◌∙◌, add-one, length, sym, arith}
use Rattle.std.proofs.lemmas.List.{length-set}
use Rattle.wb_options.specs.Questions.{letters_of}
use Rattle.std.proofs.Math.Seq.{drop-cons}
use Rattle.wb_options.proofs.Letters.{letter_more}
use Rattle.wb_options.proofs.values.letters_of.Goals as goal

pub loop-place-preserved : goal.loop-place-preserved
loop-place-preserved c =
    let before = c.loop-place in
    let bytes = c.args.bytes.now in
    let len = before.invariant.len in
    let few = c.requires in
    let end = before.auto.place-end in
    let test = c.loop-place-test.true in
    let less : before.place < length before.letters = omega arith in
    let within : before.place < length bytes = omega arith in
    record {
      len = length-set before.letters before.place c.in-Some.letter ∙ before.invariant.len;
      letters =
          letter_more bytes before.place (get_or bytes before.place 0) before.letters c.in-Some.letter (letters_of bytes)
          (rw add-one (drop-cons bytes before.place 0 within)) (sym c.letter_of.ensures ∙ c.in-Some.is) less before.invariant.letters;
    }
