-- Wait loops that have an address in common are the same loop.
use Rattle.std.proofs.Common.{◌≡◌, ℕ, zero, suc, ◌+◌, ◌-◌, ◌*◌, ◌<◌, ◌≤◌, sym, ◌∙◌, ap, subst, arith}
use Rattle.wb_rom.specs.declared.images.Image.{Image}
use Rattle.wb_port.specs.Wait.{follow, follow_times}
use Rattle.wb_port.specs.Endings.{IsPlaceOf, LoopsShareNoAddress}
use Rattle.wb_port.proofs.Circles.{IsWaitLoop, loop_of, turned_loop}
use Rattle.wb_port.proofs.Gates.{one_loop}

-- each address of a loop begins the same loop
pub moved_loop : (image : Image) (m j at : ℕ) → IsWaitLoop image at m → IsWaitLoop image (follow_times image j at) m
moved_loop image m zero at l = l
moved_loop image m (suc j) at l = moved_loop image m j (follow image at) (turned_loop image at m l)

pub follow_sum : (image : Image) (a b at : ℕ) → follow_times image (a + b) at ≡ follow_times image b (follow_times image a at)
follow_sum image zero b at = ap (λ (n : ℕ). follow_times image n at) (let e : 0 + b ≡ b = omega arith in e)
follow_sum image (suc a) b at = ap (λ (n : ℕ). follow_times image n at) (let e : suc a + b ≡ suc (a + b) = omega arith in e) ∙ follow_sum image a b (follow image at)

-- round and round a loop
pub follow_round : (image : Image) (m i at : ℕ) → follow_times image m at ≡ at → follow_times image (m * i) at ≡ at
follow_round image m zero at back = ap (λ (n : ℕ). follow_times image n at) (let e : m * 0 ≡ 0 = omega arith in e)
follow_round image m (suc i) at back =
    ap (λ (n : ℕ). follow_times image n at) (let e : m * suc i ≡ m + m * i = omega arith in e)
    ∙ follow_sum image m (m * i) at
    ∙ ap (follow_times image (m * i)) back
    ∙ follow_round image m i at back

-- from each place of a loop its first address comes again
first_again : (image : Image) (at m i : ℕ) → IsWaitLoop image at m → follow_times image (m * i - i) (follow_times image i at) ≡ at
first_again image at m i l =
    let some : 0 < m = l.some in
    let most : 1 * i ≤ m * i = mul-le-mul_right 1 m i some in
    sym (follow_sum image i (m * i - i) at)
    ∙ ap (λ (n : ℕ). follow_times image n at) (let e : i + (m * i - i) ≡ m * i = omega arith in e)
    ∙ follow_round image m i at l.back
  where
    mul-le-mul_right : (a b n : ℕ) → a ≤ b → a * n ≤ b * n
    mul-le-mul_right a b zero h = omega arith
    mul-le-mul_right a b (suc n) h = let r = mul-le-mul_right a b n h in omega arith

-- what is a place of the one loop is a place of the other
crossed : (image : Image) (at m other place y : ℕ) → IsWaitLoop image at m → IsPlaceOf image at place → IsPlaceOf image other place → IsPlaceOf image at y → IsPlaceOf image other y
crossed image at m other place y l here there h =
    let i = here.0 in
    let j = there.0 in
    let t = h.0 in
    let again : follow_times image (m * i - i) place ≡ at =
    subst (λ (x : ℕ). follow_times image (m * i - i) x ≡ at) here.1 (first_again image at m i l) in (
      j + ((m * i - i) + t),
      follow_sum image j ((m * i - i) + t) other
          ∙ ap (follow_times image ((m * i - i) + t)) there.1
          ∙ follow_sum image (m * i - i) t place
          ∙ ap (follow_times image t) again
          ∙ h.1,
    )

pub loops_share_no_address : LoopsShareNoAddress
loops_share_no_address image at m other n place k q here there =
    let l = loop_of image at m k.some k.most k.loops in
    let r = loop_of image other n q.some q.most q.loops in
    record {
      words =
          one_loop image place m n
          (subst (λ (x : ℕ). IsWaitLoop image x m) here.1 (moved_loop image m here.0 at l))
          (subst (λ (x : ℕ). IsWaitLoop image x n) there.1 (moved_loop image n there.0 other r));
      places = λ y. (crossed image at m other place y l here there, crossed image other n at place y r there here);
    }
