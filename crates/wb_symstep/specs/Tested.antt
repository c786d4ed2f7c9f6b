-- A flag of an accumulator.
use Rattle.std.specs.Prelude.{Bool}
use Rattle.wb_alu.specs.declared.flags.Flags.{Flags}
use Rattle.wb_symstep.specs.declared.work.Flag.{Flag}
use Rattle.wb_symstep.specs.declared.work.Flag.TheVariants.{C, Z, S0, S1, Ov0, Ov1}

abbrev pub flag_in : Flag → Flags → Bool
flag_in C f = f.c
flag_in Z f = f.z
flag_in S0 f = f.s0
flag_in S1 f = f.s1
flag_in Ov0 f = f.ov0
flag_in Ov1 f = f.ov1
