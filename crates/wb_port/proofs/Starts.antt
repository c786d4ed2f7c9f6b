-- A dialogue from a RAM of zeros is lawful.
use Rattle.std.proofs.Common.{◌≡◌, ℕ, ◌<◌, List, [], All, replicate, lit<, sym, subst, arith}
use Rattle.std.proofs.lemmas.List.{length-replicate}
use Rattle.std.proofs.lemmas.List.Elements.{All-replicate}
use Rattle.wb_port.specs.declared.accesses.Access.{Access}
use Rattle.wb_machine.specs.State.{IsStart}
use Rattle.wb_port.specs.Talk.{IsByteAccess, IsTalk}

zeros : IsStart (replicate 256 0)
zeros = record {
  len = length-replicate {A = ℕ} 256 0;
  words = All-replicate {X = ℕ} (λ word. word < 65536) 256 0 (lit< tt);
}

no_accesses : All IsByteAccess []
no_accesses k d less = absurd (let none : k < 0 = less in omega arith)

pub zero_talk : (accesses : List Access) → All IsByteAccess accesses → IsTalk (record { start = replicate 256 0; accesses = accesses })
zero_talk accesses bytes = record { start_in = zeros; bytes_in = bytes }

pub first_talk : (accesses : List Access) → accesses ≡ [] → IsTalk (record { start = replicate 256 0; accesses = accesses })
first_talk accesses e = zero_talk accesses (subst (All IsByteAccess) (sym e) no_accesses)
