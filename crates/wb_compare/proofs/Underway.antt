-- On the way through a level, and from level to level.
use Rattle.std.proofs.Common.{◌≡◌, ℕ, ◌+◌, ◌<◌, ◌≤◌, Bool, Option, Some, None, List, [], ◌∷◌, ◌++◌, length, take, refl, sym, ap, subst, ◌∙◌, arith}
use Rattle.std.specs.Prelude.{Contains, slice_index_or}
use Rattle.std.specs.declared.vec.Vec.{Vec}
use Rattle.std.specs.declared.alloc.Global.{Global}
use Rattle.std.proofs.lemmas.List.{take_more, take_all, append-nil}
use Rattle.std.proofs.lemmas.Grind.{flat_map-append}
use Rattle.wb_rom.specs.declared.images.Image.{Image}
use Rattle.wb_port.specs.declared.accesses.Kind.{Kind}
use Rattle.wb_solve.specs.declared.search.Answer.{Answer}
use Rattle.wb_explore.specs.Faults.{StillTells}
use Rattle.wb_explore.specs.Laws.{LayersStay}
use Rattle.wb_compare.specs.declared.questions.Question.{Question}
use Rattle.wb_compare.specs.declared.pairs.Pair.{Pair}
use Rattle.wb_compare.specs.declared.pairs.Level.{Level}
use Rattle.wb_compare.specs.declared.working.Work.{Work}
use Rattle.wb_compare.specs.Laws.{RunLaws}
use Rattle.wb_compare.specs.Growing.{kinds_of, nexts_of, all_nexts}
use Rattle.wb_compare.specs.Settled.{AreAlikeBelow}
use Rattle.wb_compare.specs.Working.{IsWork, HasSpare, IsPair, AreFresh, Visits, IsLevel, IsWhole}
use Rattle.wb_compare.proofs.Lists.{map_contains}
use Rattle.wb_compare.proofs.Going.{pair_later}
use Rattle.wb_compare.proofs.Deeper.{visits_none, fresh_at, visits_on, next_level}

-- the pairs before this one were visited, and the oracle is the same
pub record IsBetween (a b : Image) (q : Question) (l : Level) (old now : Work) (at : ℕ) (next : List Pair) (sound_old sound_now : Bool) (limit_old limit_now : ℕ) (held_old held_now : Option (List Answer)) (given_old given_now : Option ℕ) : Type 0 where
  pub visits : Visits a b q l.depth (all_nexts q.shape (take at l.pairs.items)) old now [] next
  pub sound : sound_now ≡ sound_old
  pub limit : limit_now ≡ limit_old
  pub held : held_now ≡ held_old
  pub tells : StillTells held_old given_old given_now

pub still_same : (held : Option (List Answer)) (given : Option ℕ) → StillTells held given given
still_same None given = tt
still_same (Some answers) None = tt
still_same (Some answers) (Some n) = (n, refl)

module _ (a b : Image) (q : Question) where
  module _ (l : Level) (old now : Work) (at : ℕ) (p : Pair) (next : List Pair) (level : IsLevel a b q old l) (here : slice_index_or l.pairs.items at p ≡ p) (less : at < length l.pairs.items) where
    listed_here : Contains l.pairs.items p
    listed_here = (at, less, here)

    pub pair_at : LayersStay → Visits a b q l.depth (all_nexts q.shape (take at l.pairs.items)) old now [] next → IsPair a b q now (kinds_of p) p
    pair_at layers v = pair_later a b q layers old now v.later (kinds_of p) p (level.pairs p listed_here)

    pub fresh_now : Visits a b q l.depth (all_nexts q.shape (take at l.pairs.items)) old now [] next → AreFresh now.purse.reached (nexts_of q.shape p)
    fresh_now v = subst (λ (r : Pair). AreFresh now.purse.reached (nexts_of q.shape r)) here (fresh_at a b q old now l at p next level less v)

    pub long_here : length (kinds_of p) ≡ l.depth
    long_here = level.long (kinds_of p) (map_contains kinds_of l.pairs.items p listed_here)

    pub below_now : AreAlikeBelow a b q (length (kinds_of p) + 1)
    below_now ks allowed short = (level.settled ks allowed (let e = long_here in omega arith)).alike

    pub visit_more : LayersStay → (then : Work) (after : List Pair) → Visits a b q l.depth (all_nexts q.shape (take at l.pairs.items)) old now [] next
        → Visits a b q (length (kinds_of p)) (nexts_of q.shape p) now then next after → Visits a b q l.depth (all_nexts q.shape (take (at + 1) l.pairs.items)) old then [] after
    visit_more layers then after v w =
        subst (λ (cs : List (List Kind)). Visits a b q l.depth cs old then [] after) (sym more)
        (visits_on a b q layers l.depth (all_nexts q.shape (take at l.pairs.items)) (nexts_of q.shape p) old now then [] next after v
        (subst (λ (m : ℕ). Visits a b q m (nexts_of q.shape p) now then next after) long_here w))
      where
        more : all_nexts q.shape (take (at + 1) l.pairs.items) ≡ all_nexts q.shape (take at l.pairs.items) ++ nexts_of q.shape p
        more =
            ap (all_nexts q.shape) (take_more l.pairs.items at p less ∙ ap (λ (r : Pair). take at l.pairs.items ++ r ∷ []) here)
            ∙ flat_map-append (nexts_of q.shape) (take at l.pairs.items) (p ∷ [])
            ∙ ap (λ (cs : List (List Kind)). all_nexts q.shape (take at l.pairs.items) ++ cs) (append-nil (nexts_of q.shape p))

  pub begun : (l : Level) (w : Work) (ps : List Pair) → ps ≡ [] → IsWork a b q w → HasSpare q w 0 → Visits a b q l.depth (all_nexts q.shape (take 0 l.pairs.items)) w w [] ps
  begun l w ps e work spare = subst (λ (rs : List Pair). Visits a b q l.depth [] w w [] rs) (sym e) (visits_none a b q l.depth w [] work spare)

  pub level_done : RunLaws → LayersStay → (old new : Work) (l : Level) (v : Vec Pair Global) (at : ℕ) → length l.pairs.items ≤ at → IsLevel a b q old l
      → Visits a b q l.depth (all_nexts q.shape (take at l.pairs.items)) old new [] v.items → IsLevel a b q new (record { depth = l.depth + 1; pairs = v })
  level_done laws layers old new l v at done level visits =
      next_level a b q laws layers old new l v level
      (subst (λ (ps : List Pair). Visits a b q l.depth (all_nexts q.shape ps) old new [] v.items) (take_all at l.pairs.items done) visits)

  pub whole_of : (w : Work) (l : Level) → IsLevel a b q w l → IsWork a b q w → q.n ≤ l.depth → IsWhole a b q w
  whole_of w l level work deep = record { work = work; settled = λ ks allowed few. level.settled ks allowed (omega arith) }

-- all dialogues of so many transfers are settled, and the oracle is the same
pub record IsDown (a b : Image) (q : Question) (now : Work) (l : Level) (sound_old sound_now : Bool) (limit_old limit_now : ℕ) (held_old held_now : Option (List Answer)) (given_old given_now : Option ℕ) : Type 0 where
  pub level : IsLevel a b q now l
  pub within : l.depth ≤ q.n
  pub work : IsWork a b q now
  pub spare : HasSpare q now 0
  pub sound : sound_now ≡ sound_old
  pub limit : limit_now ≡ limit_old
  pub held : held_now ≡ held_old
  pub tells : StillTells held_old given_old given_now
