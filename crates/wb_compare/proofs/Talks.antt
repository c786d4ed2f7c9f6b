-- Dialogues and the inputs that give them.
use Rattle.std.proofs.Common.{◌≡◌, ℕ, zero, suc, ◌<◌, ◌≤◌, List, [], ◌∷◌, ◌++◌, inl, inr, length, take, replicate, sym, subst, arith, lit<}
use Rattle.std.specs.Prelude.{All, slice_index}
use Rattle.std.proofs.lemmas.List.{length-append, length-take, length-replicate, get_or-take, get_or_past, get_or-replicate}
use Rattle.std.proofs.lemmas.Bool.{cases_lt}
use Rattle.std.proofs.lemmas.List.Elements.{All-head, All-tail}
use Rattle.wb_machine.specs.State.{IsStart}
use Rattle.wb_term.specs.Inputs.{Assignment, IsAssignment}
use Rattle.wb_port.specs.declared.accesses.Access.{Access}
use Rattle.wb_port.specs.declared.accesses.Access.TheVariants as access
use Rattle.wb_port.specs.declared.accesses.Kind.{Kind}
use Rattle.wb_port.specs.Talk.{Talk, kinds, IsTransfer, IsTalk, IsByteAccess}
use Rattle.wb_port.specs.Dialogue.{AllowsEach, AllowsStart}
use Rattle.wb_point.specs.Dialogues.{dialogue_under, inputs_of, transfer_bytes}
use Rattle.wb_compare.specs.declared.questions.Question.{Question}
use Rattle.wb_compare.specs.Questions.{IsQuestion, FitsQuestion, IsPlainOf}
use Rattle.wb_compare.specs.Laws.{RunLaws}
use Rattle.wb_compare.proofs.Lists.{allowed_length}

-- the inputs of a dialogue are an assignment

zero_small : (n k : ℕ) → slice_index (replicate n 0) k < 256
zero_small n k = elim (cases_lt k n) [ inl less ↦ subst (λ (v : ℕ). v < 256) (sym (get_or-replicate {A = ℕ} n k 0 0 less)) (lit< tt) | inr past ↦ subst (λ (v : ℕ). v < 256) (sym (get_or_past (replicate n 0) k 0 (let e = length-replicate {A = ℕ} n 0 in omega arith))) (lit< tt) ]

bytes_small : (accesses : List Access) → All IsByteAccess accesses → (k : ℕ) → slice_index (transfer_bytes accesses ++ replicate 16 0) k < 256
bytes_small [] h k = zero_small 16 k
bytes_small (access.Status ∷ rest) h k = bytes_small rest (All-tail IsByteAccess access.Status rest h) k
bytes_small (access.Read ∷ rest) h zero = lit< tt
bytes_small (access.Read ∷ rest) h (suc k) = bytes_small rest (All-tail IsByteAccess access.Read rest h) k
bytes_small (access.Write byte ∷ rest) h zero = All-head IsByteAccess (access.Write byte) rest h
bytes_small (access.Write byte ∷ rest) h (suc k) = bytes_small rest (All-tail IsByteAccess (access.Write byte) rest h) k

front_small : (xs : List ℕ) (n : ℕ) → ((k : ℕ) → slice_index xs k < 256) → (k : ℕ) → slice_index (take n xs) k < 256
front_small xs n h k = elim (cases_lt k (length (take n xs))) [ inl less ↦ inside less | inr past ↦ subst (λ (v : ℕ). v < 256) (sym (get_or_past (take n xs) k 0 past)) (lit< tt) ]
  where
    inside : k < length (take n xs) → slice_index (take n xs) k < 256
    inside less =
        let e = length-take n xs in
        let l : k < n = grind arith in
        subst (λ (v : ℕ). v < 256) (sym (get_or-take n xs k 0 l)) (h k)

words_small : (cells : List ℕ) → All (λ (word : ℕ). word < 65536) cells → (k : ℕ) → slice_index cells k < 65536
words_small cells h k = elim (cases_lt k (length cells)) [ inl less ↦ h k 0 less | inr past ↦ subst (λ (v : ℕ). v < 65536) (sym (get_or_past cells k 0 past)) (lit< tt) ]

pub inputs_assign : (d : Talk) → IsStart d.start → All IsByteAccess d.accesses → IsAssignment (inputs_of d)
inputs_assign d start bytes = record {
  bytes_len = long;
  cells_len = start.len;
  bytes = front_small (transfer_bytes d.accesses ++ replicate 16 0) 16 (bytes_small d.accesses bytes);
  cells = words_small d.start start.words;
}
  where
    long : length (take 16 (transfer_bytes d.accesses ++ replicate 16 0)) ≡ 16
    long =
        let a = length-take 16 (transfer_bytes d.accesses ++ replicate 16 0) in
        let b = length-append (transfer_bytes d.accesses) (replicate 16 0) in
        let c = length-replicate {A = ℕ} 16 0 in
        grind arith

module _ (laws : RunLaws) (q : Question) (asks : IsQuestion q) where
  -- a dialogue that fits is that of its kinds under its inputs
  pub plain_of : (d : Talk) → FitsQuestion q d → All IsTransfer d.accesses → dialogue_under (kinds d.accesses) (inputs_of d) q.power ≡ d
  plain_of d fits only = laws.come_back q.power d only (let h = fits.short in let n = asks.few in omega arith) fits.powered

  -- kinds that the shape allows are few
  pub allowed_few : (ks : List Kind) → AllowsEach q.shape ks → length ks ≤ q.n
  allowed_few ks h = let a = allowed_length q.shape ks h in let b = asks.shaped in omega arith

  -- dialogues of allowed kinds fit

  pub fits_under : (ks : List Kind) → AllowsEach q.shape ks → (i : Assignment) → IsAssignment i → FitsQuestion q (dialogue_under ks i q.power)
  fits_under ks allowed i a =
      let k = laws.of_kinds ks i q.power in
      let t = k.talk a in
      record {
        short = subst (λ (xs : List Kind). length xs ≤ q.n) (sym k.kinds) (allowed_few ks allowed);
        shaped = subst (AllowsEach q.shape) (sym k.kinds) allowed;
        powered = k.start;
        start_in = t.start_in;
        bytes_in = t.bytes_in;
      }

  pub plain_under : (ks : List Kind) → AllowsEach q.shape ks → (i : Assignment) → IsAssignment i → IsPlainOf q (dialogue_under ks i q.power)
  plain_under ks allowed i a = record { fits = fits_under ks allowed i a; transfers = (laws.of_kinds ks i q.power).transfers }

  -- so does a dialogue whose kinds are these

  pub planned_fits : (ks : List Kind) → AllowsEach q.shape ks → (d : Talk) → kinds d.accesses ≡ ks → AllowsStart q.power d.start → IsTalk d → FitsQuestion q d
  planned_fits ks allowed d same start talk = record {
    short = subst (λ (xs : List Kind). length xs ≤ q.n) (sym same) (allowed_few ks allowed);
    shaped = subst (AllowsEach q.shape) (sym same) allowed;
    powered = start;
    start_in = talk.start_in;
    bytes_in = talk.bytes_in;
  }
