-- How the process ends: its words are those of a call, or no text, or there was no memory for them.
use Rattle.std.specs.Prelude.{◌≡◌, ℕ, List, [], map, Vec, String, string_bytes}
use Rattle.std.specs.declared.alloc.Global.{Global}
use Rattle.std.specs.declared.result.Result.{Result}
use Rattle.std.specs.declared.result.Result.TheVariants.{Ok, Err}
use Rattle.wb_cli.specs.declared.statuses.Status.{Status}
use Rattle.wb_cli.specs.declared.statuses.Status.TheVariants as status
use Rattle.wb_cli.specs.Answers.{Answers, Put}
use Rattle.wb_cli.specs.Files.{Contents}
use Rattle.n7725.specs.declared.words.NoWords.{NoWords}
use Rattle.n7725.specs.declared.words.NoWords.TheVariants.{NotText, OutOfMemory}

-- a call with these words was answered so, on a shelf that tells this, with these counts and bytes before and after
abbrev pub IsAnswer : Contents → ℕ → ℕ → Put → List (List ℕ) → Status → Type 0
IsAnswer told before now put words answer =
    Answers (record { told = told; faults_before = before; faults_after = now; words = words }) put answer

-- the same of a process: words that are no text are as none at all
abbrev pub IsExit : Contents → ℕ → ℕ → Put → Result (Vec (String Global) Global) NoWords → Status → Type 0
IsExit told before now put (Ok words) answer = IsAnswer told before now put (map string_bytes words.items) answer
IsExit told before now put (Err NotText) answer = IsAnswer told before now put [] answer
IsExit told before now put (Err OutOfMemory) answer = answer ≡ status.NoMemory
