use Rattle.wb_rom.proofs.OneToOne.{one_image, some_image, one_file, some_file}
use Rattle.wb_rom.proofs.laws.files_pair_with_images.Goals as goal

pub returns : goal.returns
returns c = record {
  one_image = one_image;
  some_image = some_image;
  one_file = one_file;
  some_file = some_file;
}
