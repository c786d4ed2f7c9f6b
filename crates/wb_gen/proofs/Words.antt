-- What each word of the two programs does to the program counter, the stack and the status register.
use Rattle.std.proofs.Common.{◌≡◌, ℕ, ◌+◌, ◌<◌, true, false, replicate, refl, ap, ◌∙◌, arith}
use Rattle.wb_word.specs.Encoding.{instr_of}
use Rattle.wb_word.specs.declared.words.OpWord.{OpWord}
use Rattle.wb_word.specs.declared.words.Instr.{Instr}
use Rattle.wb_word.specs.declared.words.Instr.TheVariants.{Op}
use Rattle.wb_rom.specs.declared.images.Image.{Image}
use Rattle.wb_machine.specs.State.{State}
use Rattle.wb_machine.specs.State.{rqm as is_request}
use Rattle.wb_machine.specs.Next.{next, next_by, regs_after, pc_after, sp_after, stack_after, sr_after, carried, taken, following, merged, raised}
use Rattle.wb_port.specs.Facts.{CalmWordsKeepThePort}
use Rattle.wb_port.specs.Wait.{touches, raises_request, is_test, is_plain, is_poll, is_loop, word_of, follow, instr_follow}

-- the parts of a machine that the program moves in a circle
pub record IsPart (pc sr : ℕ) (s : State) : Type 0 where
  pub pc_is : s.regs.pc ≡ pc
  pub sr_is : s.regs.sr ≡ sr
  pub sp_is : s.regs.sp ≡ 0
  pub stack_is : s.stack ≡ replicate 4 0

-- a word that computes and moves, and doesn't touch the port
pub record IsCalm (word : ℕ) : Type 0 where
  pub op : OpWord
  pub decoded : instr_of word ≡ Op op
  pub calm : touches word ≡ false

pub next_is : (image : Image) (s : State) (i : Instr) → instr_of (word_of image s.regs.pc) ≡ i → next image s ≡ next_by i image s
unfolding next
next_is image s i e = ap (λ (j : Instr). next_by j image s) e

word_at_pc : (image : Image) (s : State) (at w : ℕ) → s.regs.pc ≡ at → word_of image at ≡ w → instr_of (word_of image s.regs.pc) ≡ instr_of w
word_at_pc image s at w e f = ap (λ (x : ℕ). instr_of (word_of image x)) e ∙ ap instr_of f

-- the parts after an instruction, by the instruction's own
parts_by : (image : Image) (s : State) (i : Instr) (pc sr : ℕ) → instr_of (word_of image s.regs.pc) ≡ i
    → pc_after i s ≡ pc → sr_after i image s ≡ sr → sp_after i s ≡ 0 → stack_after i s ≡ replicate 4 0
    → IsPart pc sr (next image s)
unfolding next_by regs_after
parts_by image s i pc sr e p q r t =
    let n = next_is image s i e in
    record {
      pc_is = ap (λ (x : State). x.regs.pc) n ∙ p;
      sr_is = ap (λ (x : State). x.regs.sr) n ∙ q;
      sp_is = ap (λ (x : State). x.regs.sp) n ∙ r;
      stack_is = ap (λ (x : State). x.stack) n ∙ t;
    }

-- the first word moves 0400 to the status register
pub setting_parts : (image : Image) (s : State) → word_of image 0 ≡ 0xC10007 → IsPart 0 0 s → IsPart 1 1024 (next image s)
unfolding instr_of pc_after sr_after sp_after stack_after carried
setting_parts image s w h =
    parts_by image s (instr_of 0xC10007) 1 1024 (word_at_pc image s 0 0xC10007 h.pc_is w)
    (ap following h.pc_is) (ap (merged 1024) h.sr_is) h.sp_is h.stack_is

-- the word that moves B to DR raises a request
pub asking_parts : (image : Image) (s : State) → word_of image 1 ≡ 0x000026 → IsPart 1 1024 s → IsPart 2 33792 (next image s)
unfolding instr_of pc_after sr_after sp_after stack_after
asking_parts image s w h =
    parts_by image s (instr_of 0x000026) 2 33792 (word_at_pc image s 1 0x000026 h.pc_is w)
    (ap following h.pc_is) (ap raised h.sr_is) h.sp_is h.stack_is

-- the poll is left where no request stands
pub leaving_parts : (image : Image) (s : State) → word_of image 2 ≡ 0x97C008 → IsPart 2 1024 s → IsPart 3 1024 (next image s)
unfolding instr_of pc_after sr_after sp_after stack_after taken
leaving_parts image s w h =
    let quiet : is_request s.regs ≡ false = let e = h.sr_is in rw e refl in
    parts_by image s (instr_of 0x97C008) 3 1024 (word_at_pc image s 2 0x97C008 h.pc_is w)
    (rw quiet (ap following h.pc_is)) h.sr_is h.sp_is h.stack_is

-- the word that reads DR raises no request
pub reading_parts : (image : Image) (s : State) → word_of image 3 ≡ 0x000091 → IsPart 3 1024 s → IsPart 4 1024 (next image s)
unfolding instr_of pc_after sr_after sp_after stack_after
reading_parts image s w h =
    parts_by image s (instr_of 0x000091) 4 1024 (word_at_pc image s 3 0x000091 h.pc_is w)
    (ap following h.pc_is) h.sr_is h.sp_is h.stack_is

-- a calm word goes on to the next one
pub calm_parts : CalmWordsKeepThePort → (image : Image) (s : State) (at : ℕ) → at < 2047 → IsCalm (word_of image at) → IsPart at 1024 s → IsPart (at + 1) 1024 (next image s)
unfolding next_by regs_after pc_after sp_after stack_after
calm_parts keeps image s at less w h =
    let n = next_is image s (Op w.op) (ap (λ (x : ℕ). instr_of (word_of image x)) h.pc_is ∙ w.decoded) in
    let calm : touches (word_of image s.regs.pc) ≡ false = ap (λ (x : ℕ). touches (word_of image x)) h.pc_is ∙ w.calm in
    let p = keeps image s calm in
    let f : following at ≡ at + 1 = omega arith in
    record {
      pc_is = ap (λ (x : State). x.regs.pc) n ∙ (ap following h.pc_is ∙ f);
      sr_is = p.sr ∙ h.sr_is;
      sp_is = ap (λ (x : State). x.regs.sp) n ∙ h.sp_is;
      stack_is = ap (λ (x : State). x.stack) n ∙ h.stack_is;
    }

-- the last word jumps back to the one that asks
pub turning_parts : (image : Image) (s : State) (at : ℕ) → word_of image at ≡ 0xA00004 → IsPart at 1024 s → IsPart 1 1024 (next image s)
unfolding instr_of pc_after sr_after sp_after stack_after taken
turning_parts image s at w h =
    parts_by image s (instr_of 0xA00004) 1 1024 (word_at_pc image s at 0xA00004 h.pc_is w)
    refl h.sr_is h.sp_is h.stack_is

-- which words raise a request
pub setting_raises : raises_request 0xC10007 ≡ false
unfolding raises_request instr_of
setting_raises = refl

pub asking_raises : raises_request 0x000026 ≡ true
unfolding raises_request instr_of
asking_raises = refl

pub waiting_raises : raises_request 0x97C008 ≡ false
unfolding raises_request instr_of
waiting_raises = refl

pub reading_raises : raises_request 0x000091 ≡ false
unfolding raises_request instr_of
reading_raises = refl

pub turning_raises : raises_request 0xA00004 ≡ false
unfolding raises_request instr_of
turning_raises = refl

-- the jump on RQM to address 2 is a poll there
pub waiting_tests : is_test 0x97C008 ≡ true
unfolding is_test instr_of
waiting_tests = refl

waiting_plain : is_plain 0x97C008 ≡ true
unfolding is_plain instr_of
waiting_plain = refl

waiting_follows : instr_follow (instr_of 0x97C008) 2 ≡ 2
unfolding instr_of
waiting_follows = refl

pub poll_at_two : (image : Image) → word_of image 2 ≡ 0x97C008 → is_poll image 2 ≡ true
unfolding is_poll is_loop follow
poll_at_two image w =
    let plain : is_plain (word_of image 2) ≡ true = ap is_plain w ∙ waiting_plain in
    let test : is_test (word_of image 2) ≡ true = ap is_test w ∙ waiting_tests in
    let back : instr_follow (instr_of (word_of image 2)) 2 ≡ 2 = ap (λ (x : ℕ). instr_follow (instr_of x) 2) w ∙ waiting_follows in
    simp (plain, test, back)

pub waiting_touches : touches 0x97C008 ≡ true
unfolding touches instr_of
waiting_touches = refl
