-- No dialogue differs on a demo pair.
use Rattle.std.proofs.Common.{◌≡◌, ℕ, true, List, [], ◌∷◌, ◌++◌, length, get_or, sym, ap, ◌∙◌}
use Rattle.std.proofs.Math.Seq.{get_or-append_seam}
use Rattle.wb_rom.specs.declared.images.Image.{Image}
use Rattle.wb_port.specs.declared.accesses.Power.{Power}
use Rattle.wb_port.specs.Facts.{CalmWordsKeepThePort, RaisingWordsTouch}
use Rattle.wb_port.specs.Port.{access_reply}
use Rattle.wb_law.specs.Runs.{HeldRunsStopBeforeOrAfter}
use Rattle.wb_law.specs.Schedules.{RepliesAlike, RequestsDecide, RepliesDecide}
use Rattle.wb_gen.specs.Demo.{padded, IsBody, IsPairOf}
use Rattle.wb_gen.specs.Laws.{demo_shape, PairsSayTheSame}
use Rattle.wb_gen.proofs.Keeping.{pairs_keep_going}
use Rattle.wb_gen.proofs.Programs.{serving_pair, in_circle, circle}
use Rattle.wb_gen.proofs.Together.{holds_from, requests_alike}

last_same : (front : List ℕ) (x y : ℕ) → front ++ x ∷ [] ≡ front ++ y ∷ [] → x ≡ y
last_same front x y e =
    sym (get_or-append_seam front x [] 0) ∙ (ap (λ (l : List ℕ). get_or l (length front) 0) e ∙ get_or-append_seam front y [] 0)

module _ (keeps : CalmWordsKeepThePort) (raising : RaisingWordsTouch) (stopping : HeldRunsStopBeforeOrAfter) (requests : RequestsDecide) (replies : RepliesDecide) where
  replies_alike : (body : List ℕ) (a b : Image) (power : Power) → IsBody body → IsPairOf body a b → RepliesAlike a b 4 101 demo_shape power
  replies_alike body a b power h p =
      let s = serving_pair body a b h p in
      requests a b 4 101 demo_shape power
      (λ start front x c d only fits r t.
      ap (access_reply x)
      (requests_alike keeps raising a b 101 65 97 s.first s.second (sym s.drom) body s.first_calm s.first_length s.second_length
      (holds_from a 4 (circle body) (in_circle a body s.first_parts))
      (holds_from b 4 (circle (padded true body)) (in_circle b (padded true body) s.second_parts))
      start front c d only r t))

  pub pairs_say_the_same : PairsSayTheSame
  pairs_say_the_same body a b power h p =
      let same = replies_alike body a b power h p in
      let going = pairs_keep_going keeps raising stopping body a b power h p in
      record {
        equal = λ d fits differ. differ.differ (last_same differ.earlier differ.first_reply differ.second_reply (same d _ _ fits differ.first differ.second));
        alike = replies a b 4 101 demo_shape power going.first_unbroken going.second_unbroken same;
      }
