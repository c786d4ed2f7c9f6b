-- The images of a pair run the two programs: what stands at each address.
use Rattle.std.proofs.Common.{◌≡◌, ℕ, zero, suc, ◌+◌, ◌-◌, ◌<◌, Bool, true, false, List, [], ◌∷◌, ◌++◌, length, get_or, replicate, refl, sym, ap, subst, ◌∙◌, arith, append_assoc, length-append}
use Rattle.std.specs.Prelude.{All}
use Rattle.std.specs.List.{AllByRecursion}
use Rattle.std.proofs.lemmas.Bool.{or_from}
use Rattle.std.proofs.lemmas.List.{get_or_append_left, get_or-append-add}
use Rattle.std.proofs.lemmas.List.Elements.{All-from_recursion, recursion_from_All, All-contains}
use Rattle.wb_word.specs.Encoding.{instr_of}
use Rattle.wb_word.specs.declared.codes.Dst.{Dst}
use Rattle.wb_word.specs.declared.codes.Src.{Src}
use Rattle.wb_rom.specs.declared.images.Image.{Image}
use Rattle.wb_port.specs.Wait.{src_touches, dst_touches, instr_touches, touches, word_of}
use Rattle.wb_gen.specs.Demo.{body_sources, body_targets, opening, closing, padded, IsBodyWord, IsBody, HoldsProgram, IsPairOf}
use Rattle.wb_gen.proofs.Words.{IsCalm}
use Rattle.wb_gen.proofs.Circle.{IsServing}

-- body words, the word that does nothing and the word after a body are calm
sources_calm : AllByRecursion (λ (x : Src). src_touches x ≡ false) body_sources
sources_calm = (refl, (refl, (refl, (refl, (refl, (refl, (refl, (refl, tt))))))))

targets_calm : AllByRecursion (λ (x : Dst). dst_touches x ≡ false) body_targets
targets_calm = (refl, (refl, (refl, (refl, (refl, (refl, (refl, (refl, tt))))))))

body_calm : (word : ℕ) → IsBodyWord word → IsCalm word
unfolding touches
body_calm word h =
    let s : src_touches h.op.src ≡ false = All-contains (λ (x : Src). src_touches x ≡ false) body_sources h.op.src (All-from_recursion (λ (x : Src). src_touches x ≡ false) body_sources sources_calm) h.source in
    let t : dst_touches h.op.dst ≡ false = All-contains (λ (x : Dst). dst_touches x ≡ false) body_targets h.op.dst (All-from_recursion (λ (x : Dst). dst_touches x ≡ false) body_targets targets_calm) h.goal in
    record { op = h.op; decoded = h.decoded; calm = ap instr_touches h.decoded ∙ or_from _ _ s t }

pub nothing_calm : IsCalm 0
unfolding touches instr_of
nothing_calm = record { op = _; decoded = refl; calm = refl }

ending_calm : IsCalm 0x138010
unfolding touches instr_of
ending_calm = record { op = _; decoded = refl; calm = refl }

padded_calm : (followed : Bool) (words : List ℕ) → AllByRecursion IsCalm words → AllByRecursion IsCalm (padded followed words)
padded_calm _ [] h = tt
padded_calm true (word ∷ rest) h = (h.0, (nothing_calm, padded_calm false rest h.1))
padded_calm false (word ∷ rest) h = (h.0, padded_calm true rest h.1)

with_ending : (words : List ℕ) → AllByRecursion IsCalm words → AllByRecursion IsCalm (words ++ 0x138010 ∷ [])
with_ending [] h = (ending_calm, tt)
with_ending (word ∷ rest) h = (h.0, with_ending rest h.1)

all_calm : (words : List ℕ) → AllByRecursion IsBodyWord words → AllByRecursion IsCalm words
all_calm [] h = tt
all_calm (word ∷ rest) h = (body_calm word h.0, all_calm rest h.1)

-- every second word of an even number is followed by one more
padded_pairs : (n : ℕ) (words : List ℕ) → length words ≡ n + n → length (padded true words) ≡ n + n + n
padded_pairs zero [] e = refl
padded_pairs zero (v ∷ rest) e = absurd (omega arith)
padded_pairs (suc n) [] e = absurd (omega arith)
padded_pairs (suc n) (v ∷ []) e = absurd (omega arith)
padded_pairs (suc n) (v ∷ w ∷ rest) e = let i = padded_pairs n rest (omega arith) in omega arith

-- the words of a circle: those of the body, and one more
abbrev pub circle : List ℕ → List ℕ
circle words = words ++ 0x138010 ∷ []

-- the program of an image, in parts
pub record IsParted (image : Image) (words : List ℕ) : Type 0 where
  pub zeros : List ℕ
  pub prog : image.prog ≡ opening ++ circle words ++ 0xA00004 ∷ zeros

pub parted : (image : Image) (words : List ℕ) → HoldsProgram (opening ++ words ++ closing) image → IsParted image words
parted image words h =
    let z = replicate (2048 - length (opening ++ words ++ closing)) 0 in
    record {
      zeros = z;
      prog = h.prog ∙ ap (λ (t : List ℕ). opening ++ t) (append_assoc words closing z ∙ sym (append_assoc words (0x138010 ∷ []) (0xA00004 ∷ z)));
    }

module _ (image : Image) (words : List ℕ) (p : IsParted image words) where
  abbrev all_words : List ℕ
  all_words = circle words ++ 0xA00004 ∷ p.zeros

  past_opening : (i : ℕ) → word_of image (4 + i) ≡ get_or all_words i 0
  past_opening i = ap (λ (t : List ℕ). get_or t (4 + i) 0) p.prog ∙ get_or-append-add opening all_words i 0

  pub in_circle : (i : ℕ) → i < length (circle words) → word_of image (4 + i) ≡ get_or (circle words) i 0
  in_circle i less = past_opening i ∙ get_or_append_left (circle words) (0xA00004 ∷ p.zeros) 0 i less

  after_circle : word_of image (4 + length (circle words)) ≡ 0xA00004
  after_circle =
      past_opening (length (circle words))
      ∙ (ap (λ (n : ℕ). get_or all_words n 0) (let e : length (circle words) ≡ length (circle words) + 0 = omega arith in e)
      ∙ get_or-append-add (circle words) (0xA00004 ∷ p.zeros) 0 0)

  pub serving : (k : ℕ) → AllByRecursion IsCalm (circle words) → length (circle words) < 2000 → length (circle words) + 3 < k → IsServing image k (length (circle words))
  serving k calm short paced =
      let every : All IsCalm (circle words) = All-from_recursion IsCalm (circle words) calm in
      record {
        sets = ap (λ (t : List ℕ). get_or t 0 0) p.prog;
        asks = ap (λ (t : List ℕ). get_or t 1 0) p.prog;
        waits = ap (λ (t : List ℕ). get_or t 2 0) p.prog;
        reads = ap (λ (t : List ℕ). get_or t 3 0) p.prog;
        works = λ i less. subst IsCalm (sym (in_circle i less)) (every i 0 less);
        turns = after_circle;
        short = short;
        paced = paced;
      }

-- both images of a pair serve at the pace of the demo
pub record IsServingPair (body : List ℕ) (a b : Image) : Type 0 where
  pub first_parts : IsParted a body
  pub second_parts : IsParted b (padded true body)
  pub first_length : length (circle body) ≡ 65
  pub second_length : length (circle (padded true body)) ≡ 97
  pub first_calm : AllByRecursion IsCalm (circle body)
  pub second_calm : AllByRecursion IsCalm (circle (padded true body))
  pub first : IsServing a 101 65
  pub second : IsServing b 101 97
  pub drom : a.drom ≡ b.drom

pub serving_pair : (body : List ℕ) (a b : Image) → IsBody body → IsPairOf body a b → IsServingPair body a b
serving_pair body a b h p =
    let calm : AllByRecursion IsCalm body = all_calm body (recursion_from_All IsBodyWord body h.words) in
    let fp = parted a body p.first in
    let sp = parted b (padded true body) p.second in
    let fc = with_ending body calm in
    let sc = with_ending (padded true body) (padded_calm true body calm) in
    let l0 = h.len in
    let l1 = padded_pairs 32 body (omega arith) in
    let fl : length (circle body) ≡ 65 = omega (arith, length-append body (0x138010 ∷ [])) in
    let sl : length (circle (padded true body)) ≡ 97 = omega (arith, length-append (padded true body) (0x138010 ∷ [])) in
    record {
      first_parts = fp;
      second_parts = sp;
      first_length = fl;
      second_length = sl;
      first_calm = fc;
      second_calm = sc;
      first = subst (IsServing a 101) fl (serving a body fp 101 fc (omega (arith, fl)) (omega (arith, fl)));
      second = subst (IsServing b 101) sl (serving b (padded true body) sp 101 sc (omega (arith, sl)) (omega (arith, sl)));
      drom = p.first.drom ∙ sym p.second.drom;
    }
