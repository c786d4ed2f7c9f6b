-- What a fault of the exploration, or of asking, comes to.
use Rattle.std.proofs.Common.{◌≡◌, ℕ, ◌+◌, ◌<◌, Bool, List, [], replicate, refl, sym, ap, subst, ◌∙◌, arith, lit<}
use Rattle.std.specs.Prelude.{Contains, slice_index_or}
use Rattle.std.proofs.lemmas.List.{length-replicate}
use Rattle.std.proofs.lemmas.List.Elements.{All-replicate, All-nil}
use Rattle.wb_word.specs.declared.sides.Side.{Side}
use Rattle.wb_word.specs.declared.sides.Side.TheVariants as side
use Rattle.wb_rom.specs.declared.images.Image.{Image}
use Rattle.wb_term.specs.Inputs.{Assignment, IsAssignment}
use Rattle.wb_blast.specs.declared.places.Place.{Place}
use Rattle.wb_port.specs.declared.accesses.Kind.{Kind}
use Rattle.wb_port.specs.declared.points.Point.{Point}
use Rattle.wb_port.specs.Talk.{Talk, dialogue, IsByteAccess}
use Rattle.wb_port.specs.Dialogue.{AllowsEach}
use Rattle.wb_port.specs.Points.{Passes, image_of}
use Rattle.wb_law.specs.Values.{DifferentValuesAreNoMore}
use Rattle.wb_solve.specs.Answers.{IsSpent}
use Rattle.wb_point.specs.Dialogues.{dialogue_under, inputs_of}
use Rattle.wb_point.specs.Holds.{IsPassed, IsToldApart}
use Rattle.wb_point.specs.Says.{Says}
use Rattle.wb_explore.specs.declared.faults.Asked.{Asked}
use Rattle.wb_explore.specs.declared.faults.ExploreFault.{ExploreFault}
use Rattle.wb_explore.specs.declared.faults.ExploreFault.TheVariants as explore
use Rattle.wb_explore.specs.declared.budget.Budget.{Budget}
use Rattle.wb_explore.specs.declared.reached.ReachedPoint.{ReachedPoint}
use Rattle.wb_explore.specs.Faults.{IsAsked, IsCause}
use Rattle.wb_explore.specs.Purses.{Holding}
use Rattle.wb_compare.specs.declared.questions.Question.{Question}
use Rattle.wb_compare.specs.Endings.{IsEnded, ended_by}
use Rattle.wb_compare.specs.Questions.{IsQuestion}
use Rattle.wb_compare.specs.Laws.{RunLaws}
use Rattle.wb_compare.specs.Licences.{IsAskedOf, IsReachedBy}
use Rattle.wb_compare.specs.Settled.{plan_of}
use Rattle.wb_compare.proofs.Talks.{inputs_assign, fits_under, planned_fits}
use Rattle.wb_compare.proofs.Places.{places_are_few}
use Rattle.wb_compare.proofs.Following.{reached_more}

-- inputs of zeros
pub zeros : Assignment
zeros = inputs_of (dialogue (replicate 256 0) [])

pub zeros_assign : IsAssignment zeros
unfolding zeros
zeros_assign = inputs_assign (dialogue (replicate 256 0) []) (record { len = length-replicate {A = ℕ} 256 0; words = All-replicate (λ (word : ℕ). word < 65536) 256 0 (lit< tt) }) (All-nil IsByteAccess)

both_images : (a : Image) (s : Side) → image_of a a s ≡ a
both_images a side.A = refl
both_images a side.B = refl

module _ (a b : Image) (k : ℕ) (s : Side) (d : Talk) where
  -- a point of this side is passed on its own image

  to_pair : (m : Point) → m.side ≡ s → IsPassed (image_of a b s) (image_of a b s) k d m → IsPassed a b k d m
  to_pair m e h =
      subst (λ (x : Image). Passes x m.side k d m) (both_images (image_of a b s) m.side ∙ sym (ap (image_of a b) e)) h

  from_pair : (m : Point) → m.side ≡ s → IsPassed a b k d m → IsPassed (image_of a b s) (image_of a b s) k d m
  from_pair m e h =
      subst (λ (x : Image). Passes x m.side k d m) (ap (image_of a b) e ∙ sym (both_images (image_of a b s) m.side)) h

module _ (laws : RunLaws) (a b : Image) (q : Question) (asks : IsQuestion q) (s : Side) (ks : List Kind) (allowed : AllowsEach q.shape ks) where
  says_of : (x : Asked) → IsAsked (image_of a b s) (plan_of q s ks) x → Says a b q.k q.power x.blasted.formula x.blasted.places.items x.query
  says_of x h i v = (
    λ n. let o = (h.says i v).0 n in record {
      marks = λ j e less. to_pair a b q.k s (dialogue_under x.query.kinds i q.power) (slice_index_or x.query.marks j e) (h.marks j e less) (o.marks j e less);
      fixed = o.fixed;
      last = subst (IsToldApart a b q.k (dialogue_under x.query.kinds i q.power)) (sym h.last) tt;
    },
    λ o. (h.says i v).1 (record {
      marks = λ j e less. from_pair a b q.k s (dialogue_under x.query.kinds i q.power) (slice_index_or x.query.marks j e) (h.marks j e less) (o.marks j e less);
      fixed = o.fixed;
      last = subst (IsToldApart (image_of a b s) (image_of a b s) q.k (dialogue_under x.query.kinds i q.power)) (sym h.last) tt;
    }),
  )

  pub asked_of : (x : Asked) → IsAsked (image_of a b s) (plan_of q s ks) x → IsAskedOf a b q x
  asked_of x h = record {
    dialogue = dialogue_under ks zeros q.power;
    fits = fits_under laws q asks ks allowed zeros zeros_assign;
    kinds = (laws.of_kinds ks zeros q.power).kinds ∙ sym h.kinds;
    says = says_of x h;
  }

  pub ended_right : DifferentValuesAreNoMore Place → (sound : Bool) (before : Holding) → before.budget ≡ q.budget → ((x : ReachedPoint) → Contains before.reached x → IsReachedBy a b q x)
      → (f : ExploreFault) → IsCause (image_of a b s) (plan_of q s ks) sound before f → IsEnded a b q sound (ended_by s f)
  ended_right no_more sound before budget reached (explore.Breach d at) h = (
    record { fits = planned_fits laws q asks ks allowed d h.0.kinds h.0.start h.0.talk; transfers = h.0.transfers },
    h.1,
  )
  ended_right no_more sound before budget reached (explore.Points list) h = record {
    different = h.different;
    count = h.count ∙ ap (λ (x : Budget). x.points + 1) budget;
    reached = reached_more laws a b q asks s ks allowed before.reached list reached h.adds;
  }
  ended_right no_more sound before budget reached (explore.Conflicts x steps) h = record {
    of_question = asked_of x h.0;
    spent = subst (λ (n : ℕ). IsSpent x.blasted.formula n steps) (ap (λ (y : Budget). y.conflicts) budget) h.1;
    bits = (let few = places_are_few no_more q.shape ks q.power x.blasted.places.items allowed h.0.once h.0.places in let e = h.0.inputs in omega arith);
  }
  ended_right no_more sound before budget reached (explore.BadAnswer x answer) h = (asked_of x h.0, h.1, h.2)
  ended_right no_more sound before budget reached explore.OutOfMemory h = tt
