-- What a list of words asks for: the files to read, in the order of the words, and what to do with their contents.
use Rattle.std.specs.Prelude.{ℕ, Bool, List, [], ◌∷◌, length, map, codes, nat_lt, if◌then◌else◌}
use Rattle.std.specs.List.{list_all}
use Rattle.std.specs.Str.{bytes_eq}
use Rattle.std.specs.Option.{option_map}
use Rattle.std.specs.declared.option.Option.{Option}
use Rattle.std.specs.declared.option.Option.TheVariants.{Some, None}
use Rattle.wb_compare.specs.declared.questions.Question.{Question}
use Rattle.wb_options.specs.Numbers.{number_in}
use Rattle.wb_options.specs.Questions.{question_of}
use Rattle.wb_cli.specs.declared.files.Kind.{Kind}
use Rattle.wb_cli.specs.declared.files.Kind.TheVariants as kind

-- the file of a file word, and what it must hold
pub record NamedFile : Type 0 where
  pub name : List ℕ
  pub kind : Kind

-- what is done with the contents of the files: a script is run on an image; a source is assembled; an image is listed; two
-- images are moved by hand, and so many moves can be taken back; two images are compared; the demo pair of a number is made
-- and compared
pub data Task : Type 0 where
  Run : Task
  Assemble : Task
  Disassemble : Task
  Trace : (depth : ℕ) → Task
  Compare : (question : Question) → Task
  Demo : (number : ℕ) → Task

-- what a call is to do
pub record Plan : Type 0 where
  pub files : List NamedFile
  pub task : Task

-- what the files of a plan must hold, in their order
abbrev pub kinds_of : List NamedFile → List Kind
kinds_of files = map (λ file. file.kind) files

abbrev pub image_file : List ℕ → NamedFile
image_file name = record { name = name; kind = kind.Image }

abbrev pub script_file : List ℕ → NamedFile
script_file name = record { name = name; kind = kind.Script }

abbrev pub source_file : List ℕ → NamedFile
source_file name = record { name = name; kind = kind.Source }

abbrev pub moves_file : List ℕ → NamedFile
moves_file name = record { name = name; kind = kind.Moves }

-- to run a script on an image
abbrev pub run_on : List ℕ → List ℕ → Plan
run_on image script = record { files = image_file image ∷ script_file script ∷ []; task = Run }

-- to assemble a source
abbrev pub assembly_of : List ℕ → Plan
assembly_of source = record { files = source_file source ∷ []; task = Assemble }

-- to list an image
abbrev pub listing_of : List ℕ → Plan
listing_of image = record { files = image_file image ∷ []; task = Disassemble }

-- to move two images by hand
abbrev pub trace_on : List ℕ → List ℕ → List ℕ → ℕ → Plan
trace_on a b moves depth =
    record { files = image_file a ∷ image_file b ∷ moves_file moves ∷ []; task = Trace depth }

-- to compare two images
abbrev pub comparison_of : List ℕ → List ℕ → Question → Plan
comparison_of a b question = record { files = image_file a ∷ image_file b ∷ []; task = Compare question }

-- to make the demo pair of a number and compare it
abbrev pub demo_of : ℕ → Plan
demo_of number = record { files = []; task = Demo number }

-- a file word is any text that isn't empty
abbrev pub is_file_word : List ℕ → Bool
is_file_word word = nat_lt 0 (length word)

abbrev pub admitted : Plan → Option Plan
admitted plan = if list_all (λ file. is_file_word file.name) plan.files then Some plan else None

-- `run` wants an image and a script
abbrev pub run_of : List (List ℕ) → Option Plan
run_of (image ∷ script ∷ []) = admitted (run_on image script)
run_of _ = None

-- `asm` wants a source
abbrev pub asm_of : List (List ℕ) → Option Plan
asm_of (source ∷ []) = admitted (assembly_of source)
asm_of _ = None

-- `dis` wants an image
abbrev pub dis_of : List (List ℕ) → Option Plan
dis_of (image ∷ []) = admitted (listing_of image)
dis_of _ = None

-- a trace of some depth, if there is one
abbrev pub trace_to : List ℕ → List ℕ → List ℕ → Option ℕ → Option Plan
trace_to a b moves None = None
trace_to a b moves (Some depth) = admitted (trace_on a b moves depth)

-- `trace` wants two images, moves, and a depth from 1 to 256
abbrev pub trace_of : List (List ℕ) → Option Plan
trace_of (a ∷ b ∷ moves ∷ depth ∷ []) = trace_to a b moves (number_in 1 256 depth)
trace_of _ = None

-- a comparison by some question, if there is one
abbrev pub compare_by : List ℕ → List ℕ → Option Question → Option Plan
compare_by a b None = None
compare_by a b (Some question) = admitted (comparison_of a b question)

-- `compare` wants two images, how many transfers, a pace, and options
abbrev pub compare_of : List (List ℕ) → Option Plan
compare_of (a ∷ b ∷ n ∷ k ∷ options) = compare_by a b (question_of n k options)
compare_of _ = None

-- `demo` wants a number of 64 bits
abbrev pub demo_by : List (List ℕ) → Option Plan
demo_by (number ∷ []) = option_map demo_of (number_in 0 18446744073709551615 number)
demo_by _ = None

-- the plan of the words after the program's name, or none
abbrev pub plan_of : List (List ℕ) → Option Plan
plan_of [] = None
plan_of (name ∷ words) =
    if bytes_eq name (codes "run") then run_of words
    else if bytes_eq name (codes "asm") then asm_of words
    else if bytes_eq name (codes "dis") then dis_of words
    else if bytes_eq name (codes "trace") then trace_of words
    else if bytes_eq name (codes "compare") then compare_of words
    else if bytes_eq name (codes "demo") then demo_by words
    else None
