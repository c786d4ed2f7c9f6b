use Rattle.std.proofs.Common.{append_assoc}
use Rattle.wb_trace.proofs.digits.push_shown.Goals as goal

pub returns : goal.returns
returns c =
    rw (c.push_word-4.ensures, c.push_word-3.ensures, c.push_word-2.ensures, c.push_word.ensures, c.push_address.ensures, c.push_char-2.ensures, c.push_char.ensures, c.letter.ensures.value, c.push_str.ensures.bytes)
    (simp append_assoc)
