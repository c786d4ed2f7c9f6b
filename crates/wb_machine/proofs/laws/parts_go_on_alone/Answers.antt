use Rattle.wb_machine.proofs.ByRegister.{next-pc, next-sp, next-rp, next-dp, next-a, next-b, next-tr, next-trb, next-k, next-l, next-dr, next-sr, next-so, next-flags_a, next-flags_b, next-stack, next-ram}
use Rattle.wb_machine.proofs.laws.parts_go_on_alone.Goals as goal

pub returns : goal.returns
returns c image s = record {
  pc = next-pc image s;
  sp = next-sp image s;
  rp = next-rp image s;
  dp = next-dp image s;
  a = next-a image s;
  b = next-b image s;
  tr = next-tr image s;
  trb = next-trb image s;
  k = next-k image s;
  l = next-l image s;
  dr = next-dr image s;
  sr = next-sr image s;
  so = next-so image s;
  flags_a = next-flags_a image s;
  flags_b = next-flags_b image s;
  stack = next-stack image s;
  ram = next-ram image s;
}
