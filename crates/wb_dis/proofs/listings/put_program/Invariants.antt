use Rattle.std.proofs.Common.{◌≡◌, ◌+◌, ◌*◌, ◌≤◌, ◌++◌, take, vec_len, vec_capacity}
use Rattle.wb_dis.specs.Listing.{program_line, lines_from}
use Rattle.wb_dis.proofs.listings.put_program.Given as goal

abbrev pub invariant-loop-value : goal.invariant-loop-value
invariant-loop-value l =
    record {
      text : l.text.items ≡ l.initial.text.items ++ lines_from program_line 0 (take l.value l.image.prog);
      length : vec_len l.text ≤ vec_len l.initial.text + l.value * 64;
      room : vec_capacity l.initial.text ≤ vec_capacity l.text;
    }
