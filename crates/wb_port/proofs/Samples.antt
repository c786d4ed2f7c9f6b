-- The wait loops of the worked programs, computed from the definitions.
use Rattle.std.proofs.Common.{◌≡◌, ℕ, zero, suc, ◌<◌, arith, subst, ◌+◌, Bool, true, false, refl, sym, ◌∙◌, ap, lit<, ◌⊎◌, inl, inr, ◌%◌}
use Rattle.wb_word.specs.Encoding.{instr_of}
use Rattle.wb_rom.specs.declared.images.Image.{Image}
use Rattle.wb_port.specs.Wait.{is_plain, is_test, is_poll, instr_follow, word_of, follow, to_gate}
use Rattle.wb_port.specs.Worked.{BeginsWith, echo, loop_out, loop_back, eight, nine, EchoWaits, TwoWait, EightWait, NineDoNot, WorkedLoops}
use Rattle.wb_port.proofs.Circles.{follow_poll, nearer}
use Rattle.wb_port.proofs.Gates.{at_gate}
use Rattle.wb_port.proofs.Walks.{poll_is_sought}

jrqm_two-test : is_test 0x97C008 ≡ true
unfolding is_test instr_of
jrqm_two-test = refl

jrqm_two-plain : is_plain 0x97C008 ≡ true
unfolding is_plain instr_of
jrqm_two-plain = refl

-- following a word that is known
follow_word : (image : Image) (at w : ℕ) → word_of image at ≡ w → follow image at ≡ instr_follow (instr_of w) at
unfolding follow
follow_word image at w e = ap (λ (x : ℕ). instr_follow (instr_of x) at) e

jrqm_two-follow : (at : ℕ) → instr_follow (instr_of 0x97C008) at ≡ 2
unfolding instr_of
jrqm_two-follow at = refl

asking-plain : is_plain 0x000080 ≡ false
unfolding is_plain instr_of
asking-plain = refl

echo_waits : (image : Image) → BeginsWith image echo → EchoWaits image
unfolding to_gate
echo_waits image h =
    let w2 : word_of image 2 ≡ 0x97C008 = h 2 (lit< tt) in
    let w1 : word_of image 1 ≡ 0x000080 = h 1 (lit< tt) in
    let p2 : is_plain (word_of image 2) ≡ true = ap is_plain w2 ∙ jrqm_two-plain in
    let t2 : is_test (word_of image 2) ≡ true = ap is_test w2 ∙ jrqm_two-test in
    let f2 : follow image 2 ≡ 2 = follow_word image 2 _ w2 ∙ jrqm_two-follow 2 in
    let p1 : is_plain (word_of image 1) ≡ false = ap is_plain w1 ∙ asking-plain in
    record {
      waits = sym (poll_is_sought image 2) ∙ simp (p2, f2, t2);
      asks = sym (poll_is_sought image 1) ∙ simp p1;
      stays = f2;
      near = simp t2;
    }

jnrqm_four-plain : is_plain 0x978010 ≡ true
unfolding is_plain instr_of
jnrqm_four-plain = refl

jnrqm_four-test : is_test 0x978010 ≡ true
unfolding is_test instr_of
jnrqm_four-test = refl

jnrqm_four-follow : instr_follow (instr_of 0x978010) 2 ≡ 3
unfolding instr_of
jnrqm_four-follow = refl

jmp_two-plain : is_plain 0xA00008 ≡ true
unfolding is_plain instr_of
jmp_two-plain = refl

jmp_two-test : is_test 0xA00008 ≡ false
unfolding is_test instr_of
jmp_two-test = refl

jmp_two-follow : instr_follow (instr_of 0xA00008) 3 ≡ 2
unfolding instr_of
jmp_two-follow = refl

nop-plain : is_plain 0 ≡ true
unfolding is_plain
nop-plain = refl

nop-test : is_test 0 ≡ false
unfolding is_test instr_of
nop-test = refl

nop-follow : (at : ℕ) → instr_follow (instr_of 0) at ≡ (at + 1) % 2048
unfolding instr_of
nop-follow at = refl

-- the two words of a loop: both are plain, each follows the other, and one of them is the test
record IsPair (image : Image) (a b : ℕ) (first second : Bool) : Type 0 where
  plain_a : is_plain (word_of image a) ≡ true
  plain_b : is_plain (word_of image b) ≡ true
  test_a : is_test (word_of image a) ≡ first
  test_b : is_test (word_of image b) ≡ second
  forth : follow image a ≡ b
  back : follow image b ≡ a

two_wait : (image : Image) → IsPair image 2 3 true false ⊎ IsPair image 2 3 false true → TwoWait image
two_wait image (inl h) =
    let pa = h.plain_a in let pb = h.plain_b in let ta = h.test_a in let tb = h.test_b in let f = h.forth in let b = h.back in
    record {
      first = sym (poll_is_sought image 2) ∙ simp (pa, pb, ta, tb, f, b);
      second = sym (poll_is_sought image 3) ∙ simp (pa, pb, ta, tb, f, b);
      forth = f;
      back = b;
    }
two_wait image (inr h) =
    let pa = h.plain_a in let pb = h.plain_b in let ta = h.test_a in let tb = h.test_b in let f = h.forth in let b = h.back in
    record {
      first = sym (poll_is_sought image 2) ∙ simp (pa, pb, ta, tb, f, b);
      second = sym (poll_is_sought image 3) ∙ simp (pa, pb, ta, tb, f, b);
      forth = f;
      back = b;
    }

out_waits : (image : Image) → BeginsWith image loop_out → TwoWait image
out_waits image h =
    let a : word_of image 2 ≡ 0x978010 = h 2 (lit< tt) in
    let b : word_of image 3 ≡ 0xA00008 = h 3 (lit< tt) in
    two_wait image (inl (record {
      plain_a = ap is_plain a ∙ jnrqm_four-plain;
      plain_b = ap is_plain b ∙ jmp_two-plain;
      test_a = ap is_test a ∙ jnrqm_four-test;
      test_b = ap is_test b ∙ jmp_two-test;
      forth = follow_word image 2 _ a ∙ jnrqm_four-follow;
      back = follow_word image 3 _ b ∙ jmp_two-follow;
    }))

back_waits : (image : Image) → BeginsWith image loop_back → TwoWait image
back_waits image h =
    let a : word_of image 2 ≡ 0 = h 2 (lit< tt) in
    let b : word_of image 3 ≡ 0x97C008 = h 3 (lit< tt) in
    two_wait image (inr (record {
      plain_a = ap is_plain a ∙ nop-plain;
      plain_b = ap is_plain b ∙ jrqm_two-plain;
      test_a = ap is_test a ∙ nop-test;
      test_b = ap is_test b ∙ jrqm_two-test;
      forth = follow_word image 2 _ a ∙ nop-follow 2;
      back = follow_word image 3 _ b ∙ jrqm_two-follow 3;
    }))

-- an address whose word does nothing, and the one after it
record IsNothing (image : Image) (at : ℕ) : Type 0 where
  plain : is_plain (word_of image at) ≡ true
  test : is_test (word_of image at) ≡ false
  next : follow image at ≡ (at + 1) % 2048

nothing_at : (image : Image) (at : ℕ) → word_of image at ≡ 0 → IsNothing image at
nothing_at image at e =
    record {
      plain = ap is_plain e ∙ nop-plain;
      test = ap is_test e ∙ nop-test;
      next = follow_word image at 0 e ∙ nop-follow at;
    }

-- an address with a jump on RQM to address 2
record IsBack (image : Image) (at : ℕ) : Type 0 where
  plain : is_plain (word_of image at) ≡ true
  test : is_test (word_of image at) ≡ true
  next : follow image at ≡ 2

back_at : (image : Image) (at : ℕ) → word_of image at ≡ 0x97C008 → IsBack image at
back_at image at e =
    record {
      plain = ap is_plain e ∙ jrqm_two-plain;
      test = ap is_test e ∙ jrqm_two-test;
      next = follow_word image at _ e ∙ jrqm_two-follow at;
    }

-- the word after a poll, and how far a poll is before the test
later_poll : (image : Image) (at next : ℕ) → follow image at ≡ next → is_poll image at ≡ true → is_poll image next ≡ true
later_poll image at next e poll = subst (λ (x : ℕ). is_poll image x ≡ true) e (follow_poll image at poll)

earlier : (image : Image) (at next : ℕ) → follow image at ≡ next → is_poll image at ≡ true → is_test (word_of image at) ≡ false → to_gate image at ≡ suc (to_gate image next)
earlier image at next e poll other = nearer image at poll other ∙ ap (λ (x : ℕ). suc (to_gate image x)) e

among_seven : (P : ℕ → Type 0) → P 0 → P 1 → P 2 → P 3 → P 4 → P 5 → P 6 → (j : ℕ) → j < 7 → P j
among_seven P a b c d e f g zero h = a
among_seven P a b c d e f g (suc zero) h = b
among_seven P a b c d e f g (suc (suc zero)) h = c
among_seven P a b c d e f g (suc (suc (suc zero))) h = d
among_seven P a b c d e f g (suc (suc (suc (suc zero)))) h = e
among_seven P a b c d e f g (suc (suc (suc (suc (suc zero))))) h = f
among_seven P a b c d e f g (suc (suc (suc (suc (suc (suc zero)))))) h = g
among_seven P a b c d e f g (suc (suc (suc (suc (suc (suc (suc j))))))) h = absurd (omega arith)

among_eight : (P : ℕ → Type 0) → P 0 → P 1 → P 2 → P 3 → P 4 → P 5 → P 6 → P 7 → (j : ℕ) → j < 8 → P j
among_eight P a b c d e f g h zero less = a
among_eight P a b c d e f g h (suc j) less = among_seven (λ (i : ℕ). P (suc i)) b c d e f g h j (omega arith)

eight_waits : (image : Image) → BeginsWith image eight → EightWait image
eight_waits image h =
    let n2 = nothing_at image 2 (h 2 (lit< tt)) in
    let n3 = nothing_at image 3 (h 3 (lit< tt)) in
    let n4 = nothing_at image 4 (h 4 (lit< tt)) in
    let n5 = nothing_at image 5 (h 5 (lit< tt)) in
    let n6 = nothing_at image 6 (h 6 (lit< tt)) in
    let n7 = nothing_at image 7 (h 7 (lit< tt)) in
    let n8 = nothing_at image 8 (h 8 (lit< tt)) in
    let b9 = back_at image 9 (h 9 (lit< tt)) in
    let p2 : is_poll image 2 ≡ true =
    sym (poll_is_sought image 2) ∙ simp (n2.plain, n3.plain, n4.plain, n5.plain, n6.plain, n7.plain, n8.plain, b9.plain, n2.test, n3.test, n4.test, n5.test, n6.test, n7.test, n8.test, b9.test, n2.next, n3.next, n4.next, n5.next, n6.next, n7.next, n8.next, b9.next) in
    let p3 = later_poll image 2 3 n2.next p2 in
    let p4 = later_poll image 3 4 n3.next p3 in
    let p5 = later_poll image 4 5 n4.next p4 in
    let p6 = later_poll image 5 6 n5.next p5 in
    let p7 = later_poll image 6 7 n6.next p6 in
    let p8 = later_poll image 7 8 n7.next p7 in
    let p9 = later_poll image 8 9 n8.next p8 in
    let t9 : to_gate image 9 ≡ 0 = at_gate image 9 b9.test in
    let t8 : to_gate image 8 ≡ 1 = earlier image 8 9 n8.next p8 n8.test ∙ ap suc t9 in
    let t7 : to_gate image 7 ≡ 2 = earlier image 7 8 n7.next p7 n7.test ∙ ap suc t8 in
    let t6 : to_gate image 6 ≡ 3 = earlier image 6 7 n6.next p6 n6.test ∙ ap suc t7 in
    let t5 : to_gate image 5 ≡ 4 = earlier image 5 6 n5.next p5 n5.test ∙ ap suc t6 in
    let t4 : to_gate image 4 ≡ 5 = earlier image 4 5 n4.next p4 n4.test ∙ ap suc t5 in
    let t3 : to_gate image 3 ≡ 6 = earlier image 3 4 n3.next p3 n3.test ∙ ap suc t4 in
    let t2 : to_gate image 2 ≡ 7 = earlier image 2 3 n2.next p2 n2.test ∙ ap suc t3 in
    record {
      polls = among_eight (λ (j : ℕ). is_poll image (2 + j) ≡ true) p2 p3 p4 p5 p6 p7 p8 p9;
      forth =
          among_seven (λ (j : ℕ). follow image (2 + j) ≡ 3 + j)
          n2.next n3.next n4.next n5.next n6.next n7.next n8.next;
      back = b9.next;
      far =
          among_eight (λ (j : ℕ). j + to_gate image (2 + j) ≡ 7)
          (omega arith) (omega arith) (omega arith) (omega arith) (omega arith) (omega arith) (omega arith) (omega arith);
    }

nine_do_not : (image : Image) → BeginsWith image nine → NineDoNot image
nine_do_not image h =
    let n2 = nothing_at image 2 (h 2 (lit< tt)) in
    let n3 = nothing_at image 3 (h 3 (lit< tt)) in
    let n4 = nothing_at image 4 (h 4 (lit< tt)) in
    let n5 = nothing_at image 5 (h 5 (lit< tt)) in
    let n6 = nothing_at image 6 (h 6 (lit< tt)) in
    let n7 = nothing_at image 7 (h 7 (lit< tt)) in
    let n8 = nothing_at image 8 (h 8 (lit< tt)) in
    let n9 = nothing_at image 9 (h 9 (lit< tt)) in
    let b10 = back_at image 10 (h 10 (lit< tt)) in
    record {
      first = sym (poll_is_sought image 2) ∙ simp (n2.plain, n3.plain, n4.plain, n5.plain, n6.plain, n7.plain, n8.plain, n9.plain, n2.next, n3.next, n4.next, n5.next, n6.next, n7.next, n8.next, n9.next);
      last = sym (poll_is_sought image 10) ∙ simp (b10.plain, n2.plain, n3.plain, n4.plain, n5.plain, n6.plain, n7.plain, n8.plain, b10.next, n2.next, n3.next, n4.next, n5.next, n6.next, n7.next, n8.next);
    }

pub worked_loops : (image : Image) → WorkedLoops image
worked_loops image =
    record {
      echo_waits = echo_waits image;
      out_waits = out_waits image;
      back_waits = back_waits image;
      eight_waits = eight_waits image;
      nine_do_not = nine_do_not image;
    }
