-- The names of the words that statements begin with.
use Rattle.std.specs.Prelude.{ℕ, List, codes}
use Rattle.std.specs.declared.option.Option.{Option}
use Rattle.std.specs.declared.option.Option.TheVariants.{Some}
use Rattle.wb_word.specs.Names.{cond_name}
use Rattle.wb_syntax.specs.declared.mnemonics.Mnemonic.{Mnemonic}
use Rattle.wb_syntax.specs.declared.mnemonics.Mnemonic.TheVariants.{Nop, Op, Rt, Ld, Jump, Org, Dorg, Equ, Word, Dw}

-- a condition without a name is no mnemonic
abbrev pub mnemonic_name : Mnemonic → Option (List ℕ)
mnemonic_name Nop = Some (codes "nop")
mnemonic_name Op = Some (codes "op")
mnemonic_name Rt = Some (codes "rt")
mnemonic_name Ld = Some (codes "ld")
mnemonic_name (Jump cond) = cond_name cond
mnemonic_name Org = Some (codes ".org")
mnemonic_name Dorg = Some (codes ".dorg")
mnemonic_name Equ = Some (codes ".equ")
mnemonic_name Word = Some (codes ".word")
mnemonic_name Dw = Some (codes ".dw")
