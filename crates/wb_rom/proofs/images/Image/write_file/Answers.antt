-- The data words leave the bytes of the program words in place.
use Rattle.std.proofs.Common.{◌+◌, ◌*◌, arith}
use Rattle.wb_rom.proofs.images.Image.write_file.Goals as goal

pub returns : goal.returns
returns c = record {
  len = c.write_data.ensures.len;
  each_byte = c.write_data.ensures.each_byte;
  prog = λ k h.
      let written = c.write_program.ensures.words k h in
      let kept = c.write_data.ensures.before in
      let low = kept (3 * k) (omega (arith, h)) in
      let middle = kept (3 * k + 1) (omega (arith, h)) in
      let high = kept (3 * k + 2) (omega (arith, h)) in
      omega (arith, written, low, middle, high);
  drom = c.write_data.ensures.words;
}
