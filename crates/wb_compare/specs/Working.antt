-- A comparison on its way: its graph, the points that were reached, the overruns that were kept.
use Rattle.std.specs.Prelude.{◌≡◌, ℕ, ◌+◌, ◌*◌, ◌<◌, ◌≤◌, Option, Some, None, List, ◌++◌, ◌⊎◌, length, map, Contains}
use Rattle.wb_word.specs.declared.sides.Side.{Side}
use Rattle.wb_word.specs.declared.sides.Side.TheVariants as side
use Rattle.wb_rom.specs.declared.images.Image.{Image}
use Rattle.wb_term.specs.Terms.{table_of, table_words}
use Rattle.wb_term.specs.Growth.{Grown, total_weight}
use Rattle.wb_port.specs.declared.accesses.Kind.{Kind}
use Rattle.wb_port.specs.Dialogue.{AllowsEach}
use Rattle.wb_port.specs.Points.{image_of}
use Rattle.wb_port.specs.Talk.{Talk}
use Rattle.wb_port.specs.Verdicts.{Overruns}
use Rattle.wb_explore.specs.declared.reached.ReachedPoint.{ReachedPoint}
use Rattle.wb_explore.specs.Growth.{start_nodes}
use Rattle.wb_explore.specs.Layers.{Requests, IsLayer, Knows, AddsPassed}
use Rattle.wb_explore.specs.Purses.{points_of}
use Rattle.wb_compare.specs.declared.questions.Question.{Question}
use Rattle.wb_compare.specs.declared.pairs.Pair.{Pair}
use Rattle.wb_compare.specs.declared.pairs.Level.{Level}
use Rattle.wb_compare.specs.declared.working.Work.{Work}
use Rattle.wb_compare.specs.Questions.{IsPlainOf}
use Rattle.wb_compare.specs.Licences.{IsReachedBy}
use Rattle.wb_compare.specs.Growing.{kinds_of, AreDistinct}
use Rattle.wb_compare.specs.Settled.{plan_of, IsPaced, IsSettled, IsSilent}

-- the overrun that is kept of a side
abbrev pub kept_of : Work → Side → Option Talk
kept_of w side.A = w.first_overrun
kept_of w side.B = w.second_overrun

-- the first where there is one, else the second
abbrev pub or_else : Option Talk → Option Talk → Option Talk
or_else (Some d) other = Some d
or_else None other = other

-- with an overrun of this side, where none was kept
abbrev pub with_overrun : Work → Side → Option Talk → Work
with_overrun w side.A o = record w { first_overrun = or_else w.first_overrun o }
with_overrun w side.B o = record w { second_overrun = or_else w.second_overrun o }

-- the dialogue, where one is kept, fits and its held run overruns
abbrev pub IsKept : Image → Question → Option Talk → Type 0
IsKept image q None = Unit {0}
IsKept image q (Some d) = IsPlainOf q d × Overruns image d q.k

-- What holds all along: the graph reads the data ROMs, the purse has the question's budget and only points that
-- fitting dialogues reach, and the overruns are right.
pub record IsWork (a b : Image) (q : Question) (w : Work) : Type 0 where
  pub words : (s : Side) → table_words w.graph.tables (table_of w.graph.tables s) ≡ (image_of a b s).drom
  pub budget : w.purse.budget ≡ q.budget
  pub reached : (x : ReachedPoint) → Contains w.purse.reached x → IsReachedBy a b q x
  pub kept : (s : Side) → IsKept (image_of a b s) q (kept_of w s)

-- there is room for the replies at so many request states, within what the next exploration asks for
pub record HasSpare (q : Question) (w : Work) (requests : ℕ) : Type 0 where
  pub few : length w.graph.nodes + 936 * requests ≤ start_nodes q.power + 4000 * length w.purse.reached
  pub light : total_weight w.graph + 58976 * requests ≤ 260000 * length w.purse.reached

-- what stays as a comparison goes on
pub record IsLater (old new : Work) : Type 0 where
  pub grown : Grown old.graph new.graph
  pub added : List ReachedPoint
  pub reached : new.purse.reached ≡ old.purse.reached ++ added
  pub kept : (s : Side) (d : Talk) → kept_of old s ≡ Some d → kept_of new s ≡ Some d

-- a layer of these kinds on this side, whose points are all in the purse
pub record IsSideOf (a b : Image) (q : Question) (w : Work) (s : Side) (ks : List Kind) (l : Requests) : Type 0 where
  pub plan : l.plan ≡ plan_of q s ks
  pub layer : IsLayer w.graph (image_of a b s) l
  pub knows : Knows (image_of a b s) l.plan w.purse.reached

-- the layers of both sides for these kinds, which the shape allows
pub record IsPair (a b : Image) (q : Question) (w : Work) (ks : List Kind) (p : Pair) : Type 0 where
  pub first : IsSideOf a b q w side.A ks p.first
  pub second : IsSideOf a b q w side.B ks p.second
  pub allowed : AllowsEach q.shape ks

-- One side was followed through the dialogues of some kinds, which came to this layer.
pub record Follows (a b : Image) (q : Question) (s : Side) (ks : List Kind) (old new : Work) (l : Requests) : Type 0 where
  pub layer : IsSideOf a b q new s ks l
  pub work : IsWork a b q new
  pub later : IsLater old new
  pub paced : kept_of new s ≡ None → IsPaced a b q s ks
  pub passed : AddsPassed (image_of a b s) (plan_of q s ks) old.purse.reached new.purse.reached
  pub spare : (requests : ℕ) → HasSpare q old requests → HasSpare q new (requests + length l.requests)

-- the points that were reached by now
abbrev pub settled_by : Image → Image → Question → Work → List Kind → Type 0
settled_by a b q w ks = IsSettled a b q (points_of w.purse.reached) (kept_of w) ks

-- The dialogues of these kinds were followed on both sides and settled. The points that were added have these kinds,
-- or fewer.
pub record Settles (a b : Image) (q : Question) (ks : List Kind) (old new : Work) (p : Pair) : Type 0 where
  pub pair : IsPair a b q new ks p
  pub work : IsWork a b q new
  pub later : IsLater old new
  pub settled : settled_by a b q new ks
  pub points : (x : ReachedPoint) → Contains new.purse.reached x → Contains old.purse.reached x ⊎ ((x.point.kinds ≡ ks) ⊎ (length x.point.kinds < length ks))
  pub spare : HasSpare q new 0

-- no point has one of these lists of kinds
abbrev pub AreFresh : List ReachedPoint → List (List Kind) → Type 0
AreFresh reached new = (x : ReachedPoint) → Contains reached x → Contains new x.point.kinds → ⊥

-- Lists of kinds were settled one after another, each with its pair of layers. The points that were added have one of
-- these lists of kinds, or at most so many transfers.
pub record Visits (a b : Image) (q : Question) (m : ℕ) (cs : List (List Kind)) (old new : Work) (before after : List Pair) : Type 0 where
  pub work : IsWork a b q new
  pub later : IsLater old new
  pub spare : HasSpare q new 0
  pub settled : (ks : List Kind) → Contains cs ks → settled_by a b q new ks
  pub kinds : map kinds_of after ≡ map kinds_of before ++ cs
  pub pairs : (p : Pair) → Contains after p → Contains before p ⊎ IsPair a b q new (kinds_of p) p
  pub points : (x : ReachedPoint) → Contains new.purse.reached x → Contains old.purse.reached x ⊎ ((length x.point.kinds ≤ m) ⊎ Contains cs x.point.kinds)

-- All dialogues of so many transfers are settled, and all shorter ones. For the kinds that may go on there is a pair
-- of layers; after all other kinds that the shape allows no request follows.
pub record IsLevel (a b : Image) (q : Question) (w : Work) (l : Level) : Type 0 where
  pub pairs : (p : Pair) → Contains l.pairs.items p → IsPair a b q w (kinds_of p) p
  pub long : (ks : List Kind) → Contains (map kinds_of l.pairs.items) ks → length ks ≡ l.depth
  pub apart : AreDistinct (map kinds_of l.pairs.items)
  pub whole : (ks : List Kind) → AllowsEach q.shape ks → length ks ≡ l.depth → Contains (map kinds_of l.pairs.items) ks ⊎ ((s : Side) → IsSilent a b q s ks)
  pub settled : (ks : List Kind) → AllowsEach q.shape ks → length ks ≤ l.depth → settled_by a b q w ks
  pub points : (x : ReachedPoint) → Contains w.purse.reached x → length x.point.kinds ≤ l.depth

-- every dialogue of the question is settled
pub record IsWhole (a b : Image) (q : Question) (w : Work) : Type 0 where
  pub work : IsWork a b q w
  pub settled : (ks : List Kind) → AllowsEach q.shape ks → length ks ≤ q.n → settled_by a b q w ks
