use Rattle.std.proofs.Common.{◌<◌, length, arith, ◌++◌, ◌∷◌, [], map, take, subst, sym, string_bytes}
use Rattle.wb_options.specs.Options.{values, IsGiven}
use Rattle.wb_options.proofs.Words.{values_more}
use Rattle.wb_options.proofs.options.given_to.Goals as goal

pub loop-word-preserved : goal.loop-word-preserved
loop-word-preserved c =
    let key = c.args.key.now in
    let words = c.args.words.now in
    let place = c.loop-word.word-index in
    let less : place < length words = let test = c.loop-word-test.true in let end = c.loop-word.auto.word-index-end in omega arith in
    let front = values key (map string_bytes (take place words)) in
    subst (λ vs. IsGiven vs c.with_word-found.result) (sym (values_more string_bytes key words place c.word-item.result less c.word-item.is))
    (subst (λ bytes. IsGiven (front ++ values key (bytes ∷ [])) c.with_word-found.result) c.as_str.ensures.value (c.with_word-found.ensures front c.loop-word.invariant))
