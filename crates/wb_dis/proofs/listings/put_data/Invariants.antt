use Rattle.std.proofs.Common.{◌≡◌, ◌+◌, ◌*◌, ◌≤◌, ◌++◌, take, vec_len, vec_capacity}
use Rattle.wb_dis.specs.Listing.{data_line, lines_from}
use Rattle.wb_dis.proofs.listings.put_data.Given as goal

abbrev pub invariant-loop-at : goal.invariant-loop-at
invariant-loop-at l =
    record {
      text : l.text.items ≡ l.initial.text.items ++ lines_from data_line 0 (take l.at l.image.drom);
      length : vec_len l.text ≤ vec_len l.initial.text + l.at * 18;
      room : vec_capacity l.initial.text ≤ vec_capacity l.text;
    }
