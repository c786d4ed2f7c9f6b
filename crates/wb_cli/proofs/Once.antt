-- Calls have one answer.
use Rattle.std.proofs.Common.{◌≡◌, ◌≢◌, ℕ, zero, suc, ◌<◌, List, [], ◌∷◌, ◌++◌, length, Option, None, Some, Result, Ok, Err, refl, sym, ◌∙◌, ap, subst, inl, inr, arith}
use std.Path.{fun_ext}
use Rattle.wb_base.specs.Faults.{Rose}
use Rattle.wb_base.specs.Shelf.{Content, IsLonger, IsWhole}
use Rattle.wb_base.specs.Sink.{Appends}
use Rattle.wb_rom.specs.declared.images.Image.{Image}
use Rattle.wb_rom.specs.ImageBytes.{IsImageOf}
use Rattle.wb_script.specs.declared.items.Item.{Item}
use Rattle.wb_session.specs.declared.transcripts.Transcript.{Transcript}
use Rattle.wb_session.specs.Transcript.{IsTranscript}
use Rattle.wb_cli.specs.declared.files.Kind.{Kind}
use Rattle.wb_cli.specs.declared.outcomes.Outcome.{Outcome}
use Rattle.wb_cli.specs.declared.outcomes.Outcome.TheVariants as outcome
use Rattle.wb_cli.specs.declared.refusals.Refusal.{Refusal}
use Rattle.wb_cli.specs.declared.refusals.Refusal.TheVariants as refusal
use Rattle.wb_cli.specs.declared.statuses.Ending.{Ending}
use Rattle.wb_cli.specs.declared.statuses.Ending.TheVariants as ending
use Rattle.wb_cli.specs.declared.statuses.Status.{Status}
use Rattle.wb_cli.specs.declared.statuses.Status.TheVariants as status
use Rattle.wb_cli.specs.Answers.{Answers, Met, Put, Writes}
use Rattle.wb_cli.specs.Checks.{Held, AnImage, AScript, SomeMoves, FirstRefused}
use Rattle.wb_cli.specs.Files.{Contents, limit_of, Reads, ReadsAll, FirstUnread, CouldNot, TooLong}
use Rattle.wb_cli.specs.Once.{AreAlike, IsCalm, IsSettled, IsSettledPlan, TookOneText}
use Rattle.wb_cli.specs.Outcome.{Makes, Works, PlanComesTo, ComesTo}
use Rattle.wb_cli.specs.Plan.{NamedFile, Plan, Task, Run, Assemble, Disassemble, Trace, Compare, Demo, kinds_of, plan_of}
use Rattle.wb_cli.specs.Report.{IsReply, IsReport, IsTextOf, demo_line, words_line}
use Rattle.wb_report.specs.Digits.{with_feed}
use Rattle.wb_report.specs.Laws.{VerdictsHaveOneText}
use Rattle.wb_report.specs.Verdicts.{Begins}
use Rattle.wb_cli.specs.declared.comparing.Compared.{Compared}
use Rattle.wb_cli.specs.Status.{ending_status}
use Rattle.wb_cli.proofs.Holding.{KindLaws, held_once, refused_once, held_or_refused}

-- what the crates below say of contents and of work on them
pub record WorkLaws : Type 0 where
  pub kinds : KindLaws
  pub one_file : (first second : List ℕ) (image : Image) → IsImageOf first image → IsImageOf second image → first ≡ second
  pub one_text : VerdictsHaveOneText
  pub one_transcript : (image : Image) (items : List Item) (t other : Transcript) → IsTranscript image items t → IsTranscript image items other → t ≡ other

-- the same work on the same files makes one outcome
makes_once : WorkLaws → (task : Task) → IsSettled task → (held : List Held) (made other : Outcome) → Makes task held made → Makes task held other → made ≡ other
makes_once laws Run settled (AnImage image ∷ AScript items ∷ []) (outcome.Ran transcript) (outcome.Ran other) h k =
    ap outcome.Ran (laws.one_transcript image items transcript other h k)
makes_once laws Run settled (AnImage image ∷ AScript items ∷ []) (outcome.Ran transcript) _ h k = absurd k
makes_once laws Assemble settled (AnImage image ∷ []) (outcome.Assembled built) (outcome.Assembled other) h k = ap outcome.Assembled (h ∙ sym k)
makes_once laws Assemble settled (AnImage image ∷ []) (outcome.Assembled built) _ h k = absurd k
makes_once laws Disassemble settled (AnImage image ∷ []) (outcome.Listed listed) (outcome.Listed other) h k = ap outcome.Listed (h ∙ sym k)
makes_once laws Disassemble settled (AnImage image ∷ []) (outcome.Listed listed) _ h k = absurd k
makes_once laws (Trace depth) settled (AnImage a ∷ AnImage b ∷ SomeMoves moves ∷ []) (outcome.Traced text) (outcome.Traced other) h k =
    ap outcome.Traced (h ∙ sym k)
makes_once laws (Trace depth) settled (AnImage a ∷ AnImage b ∷ SomeMoves moves ∷ []) (outcome.Traced text) _ h k = absurd k
makes_once laws (Compare question) settled held made other h k = absurd settled
makes_once laws (Demo number) settled held made other h k = absurd settled
makes_once laws _ settled _ _ other h k = absurd h

-- what a line is before has one text, if it has one without the line
begins_once : (line : List ℕ) (P : List ℕ → Type 0) → ((text other : List ℕ) → P text → P other → text ≡ other) → (text other : List ℕ) → Begins line P text → Begins line P other → text ≡ other
begins_once line P once text other h k =
    h.parts ∙ ap (λ xs. with_feed line ++ xs) (once h.rest k.rest h.holds k.holds) ∙ sym k.parts

verdict_once : WorkLaws → (compared : Compared) (text other : List ℕ) → IsTextOf compared text → IsTextOf compared other → text ≡ other
verdict_once laws compared text other h k =
    laws.one_text compared.first compared.second compared.comparison.question compared.verdict text other h k

-- an outcome has one report
report_once : WorkLaws → (made : Outcome) (text other : List ℕ) → IsReport made text → IsReport made other → text ≡ other
report_once laws (outcome.Ran transcript) text other h k = h ∙ sym k
report_once laws (outcome.Assembled image) text other h k = laws.one_file text other image h k
report_once laws (outcome.Listed image) text other h k = h ∙ sym k
report_once laws (outcome.Traced traced) text other h k = h ∙ sym k
report_once laws (outcome.Compared compared) text other h k = verdict_once laws compared text other h k
report_once laws (outcome.Demonstrated number compared) text other h k =
    begins_once (demo_line number) (Begins words_line (IsTextOf compared))
    (begins_once words_line (IsTextOf compared) (verdict_once laws compared)) text other h k

replied_once : WorkLaws → (result : Result Outcome Refusal) (end last : Ending) (text other : List ℕ) → IsReply result end text → IsReply result last other → (end ≡ last) × (text ≡ other)
replied_once laws (Ok made) end last text other h k = (h.0 ∙ sym k.0, report_once laws made text other h.1 k.1)
replied_once laws (Err refused) end last text other h k = (h.0 ∙ sym k.0, h.1 ∙ sym k.1)

-- the first file that isn't read is one, whatever its cause
one_unread : (told : Contents) (Cause Other : NamedFile → Type 0) (files : List NamedFile) (place other : ℕ)
    → ((file : NamedFile) (bytes : List ℕ) → Reads told file bytes → Cause file → ⊥)
    → ((file : NamedFile) (bytes : List ℕ) → Reads told file bytes → Other file → ⊥)
    → FirstUnread told Cause files place → FirstUnread told Other files other
    → (place ≡ other) × ((file : NamedFile) × Cause file × Other file)
one_unread told Cause Other [] place other never not h k = absurd h
one_unread told Cause Other (file ∷ files) zero zero never not h k = (refl, (file, h, k))
one_unread told Cause Other (file ∷ files) zero (suc other) never not h k = absurd (never file k.0.0 k.0.1 h)
one_unread told Cause Other (file ∷ files) (suc place) zero never not h k = absurd (not file h.0.0 h.0.1 k)
one_unread told Cause Other (file ∷ files) (suc place) (suc other) never not h k =
    let rest = one_unread told Cause Other files place other never not h.1 k.1 in (ap suc rest.0, rest.1)

-- files that are all read have none that isn't
all_read : (told : Contents) (Cause : NamedFile → Type 0) (files : List NamedFile) (contents : List (List ℕ)) (place : ℕ)
    → ((file : NamedFile) (bytes : List ℕ) → Reads told file bytes → Cause file → ⊥)
    → ReadsAll told files contents → FirstUnread told Cause files place → ⊥
all_read told Cause [] contents place never reads unread = unread
all_read told Cause (file ∷ files) [] place never reads unread = reads
all_read told Cause (file ∷ files) (bytes ∷ contents) zero never reads unread = never file bytes reads.0 unread
all_read told Cause (file ∷ files) (bytes ∷ contents) (suc place) never reads unread = all_read told Cause files contents place never reads.1 unread.1

-- a content that is told is read in one way
whole_once : (limit : ℕ) (content : Content) (bytes other : List ℕ) → content ≢ None → IsWhole limit content bytes → IsWhole limit content other → bytes ≡ other
whole_once limit None bytes other tells h k = absurd (tells refl)
whole_once limit (Some None) bytes other tells h k = absurd (h.present refl)
whole_once limit (Some (Some xs)) bytes other tells h k = h.told xs refl ∙ sym (k.told xs refl)

read_once : (told : Contents) → ((name : List ℕ) → told name ≢ None) → (files : List NamedFile) (contents others : List (List ℕ))
    → ReadsAll told files contents → ReadsAll told files others → contents ≡ others
read_once told tells [] [] [] h k = refl
read_once told tells [] [] (_ ∷ _) h k = absurd k
read_once told tells [] (_ ∷ _) others h k = absurd h
read_once told tells (file ∷ files) [] others h k = absurd h
read_once told tells (file ∷ files) (bytes ∷ contents) [] h k = absurd k
read_once told tells (file ∷ files) (bytes ∷ contents) (other ∷ others) h k =
    let one : bytes ≡ other = whole_once (limit_of file.kind) (told file.name) bytes other (tells file.name) h.0 k.0 in
    let more : contents ≡ others = read_once told tells files contents others h.1 k.1 in
    cc

-- a file that was read is neither missing nor too long, where no fault was counted

not_missing : (told : Contents) (before now : ℕ) → (Rose before now → ⊥) → (file : NamedFile) (bytes : List ℕ) → Reads told file bytes → CouldNot told before now file → ⊥
not_missing told before now calm file bytes reads cause = elim cause [ inl rose ↦ calm rose | inr absent ↦ reads.present absent ]

longer_not_whole : (limit : ℕ) (content : Content) (bytes : List ℕ) → content ≢ None → IsWhole limit content bytes → IsLonger limit content → ⊥
longer_not_whole limit None bytes tells whole longer = tells refl
longer_not_whole limit (Some None) bytes tells whole longer = whole.present refl
longer_not_whole limit (Some (Some xs)) bytes tells whole longer =
    let same : bytes ≡ xs = whole.told xs refl in
    let more : limit < length xs = longer.told xs refl in
    let len : length bytes ≡ length xs = ap length same in
    let within = whole.within in
    absurd (omega arith)

not_longer : (told : Contents) → ((name : List ℕ) → told name ≢ None) → (file : NamedFile) (bytes : List ℕ) → Reads told file bytes → TooLong told file → ⊥
not_longer told tells file bytes reads longer = longer_not_whole (limit_of file.kind) (told file.name) bytes (tells file.name) reads longer

missing_not_longer : (told : Contents) (before now : ℕ) → (Rose before now → ⊥) → (file : NamedFile) → CouldNot told before now file → TooLong told file → ⊥
missing_not_longer told before now calm file cause longer = elim cause [ inl rose ↦ calm rose | inr absent ↦ longer.present absent ]

-- what checking contents and working on them comes to, once it isn't stopped for want of memory
abbrev Ends : Task → List Kind → List (List ℕ) → Result Outcome Refusal → Type 0
Ends task kinds contents (Ok made) = Works task kinds contents made
Ends task kinds contents (Err refused) = FirstRefused 0 kinds contents refused

ends_once : WorkLaws → (task : Task) → IsSettled task → (kinds : List Kind) (contents : List (List ℕ)) (result other : Result Outcome Refusal)
    → Ends task kinds contents result → Ends task kinds contents other → result ≡ other
ends_once laws task settled kinds contents (Ok made) (Ok other) h k =
    let one : h.held ≡ k.held = held_once laws.kinds kinds contents h.held k.held h.holds k.holds in
    let makes : Makes task k.held made = subst (λ held. Makes task held made) one h.makes in
    ap Ok (makes_once laws task settled k.held made other makes k.makes)
ends_once laws task settled kinds contents (Ok made) (Err refused) h k = absurd (held_or_refused laws.kinds 0 kinds contents h.held refused h.holds k)
ends_once laws task settled kinds contents (Err refused) (Ok made) h k = absurd (held_or_refused laws.kinds 0 kinds contents k.held refused k.holds h)
ends_once laws task settled kinds contents (Err refused) (Err other) h k = ap Err (refused_once laws.kinds 0 kinds contents refused other h k)

-- two calls on one shelf, which tells its contents, with no counted fault
record Calm : Type 0 where
  told : Contents
  tells : (name : List ℕ) → told name ≢ None
  before : ℕ
  now : ℕ
  calm : Rose before now → ⊥
  then : ℕ
  last : ℕ
  also_calm : Rose then last → ⊥

unread_apart : (c : Calm) (plan : Plan) (place : ℕ) → FirstUnread c.told (CouldNot c.told c.before c.now) plan.files place
    → (contents : List (List ℕ)) → ReadsAll c.told plan.files contents → ⊥
unread_apart c plan place h contents reads = all_read c.told (CouldNot c.told c.before c.now) plan.files contents place (not_missing c.told c.before c.now c.calm) reads h

from_missing : (c : Calm) (plan : Plan) (place : ℕ) (other : Result Outcome Refusal) → FirstUnread c.told (CouldNot c.told c.before c.now) plan.files place
    → PlanComesTo c.told c.then c.last plan other → Err (refusal.ReadFault place) ≡ other
from_missing c plan place (Ok made) h k = absurd (unread_apart c plan place h k.contents k.whole)
from_missing c plan place (Err (refusal.ReadFault other)) h k =
    let same = one_unread c.told (CouldNot c.told c.before c.now) (CouldNot c.told c.then c.last) plan.files place other
    (not_missing c.told c.before c.now c.calm) (not_missing c.told c.then c.last c.also_calm) h k in
    ap (λ p. Err (refusal.ReadFault p)) same.0
from_missing c plan place (Err (refusal.TooLong other)) h k =
    let same = one_unread c.told (CouldNot c.told c.before c.now) (TooLong c.told) plan.files place other
    (not_missing c.told c.before c.now c.calm) (not_longer c.told c.tells) h k.0 in
    absurd (missing_not_longer c.told c.before c.now c.calm same.1.0 same.1.1 same.1.2)
from_missing c plan place (Err refused) h k = absurd (unread_apart c plan place h k.contents k.whole)

from_longer : (c : Calm) (plan : Plan) (place : ℕ) (other : Result Outcome Refusal) → FirstUnread c.told (TooLong c.told) plan.files place
    → PlanComesTo c.told c.then c.last plan other → Err (refusal.TooLong place) ≡ other
from_longer c plan place (Ok made) h k = absurd (all_read c.told (TooLong c.told) plan.files k.contents place (not_longer c.told c.tells) k.whole h)
from_longer c plan place (Err (refusal.ReadFault other)) h k =
    let same = one_unread c.told (TooLong c.told) (CouldNot c.told c.then c.last) plan.files place other
    (not_longer c.told c.tells) (not_missing c.told c.then c.last c.also_calm) h k in
    absurd (missing_not_longer c.told c.then c.last c.also_calm same.1.0 same.1.2 same.1.1)
from_longer c plan place (Err (refusal.TooLong other)) h k =
    let same = one_unread c.told (TooLong c.told) (TooLong c.told) plan.files place other
    (not_longer c.told c.tells) (not_longer c.told c.tells) h k.0 in
    ap (λ p. Err (refusal.TooLong p)) same.0
from_longer c plan place (Err refused) h k = absurd (all_read c.told (TooLong c.told) plan.files k.contents place (not_longer c.told c.tells) k.whole h)

from_contents : WorkLaws → (c : Calm) (plan : Plan) → IsSettled plan.task → (contents : List (List ℕ)) (result other : Result Outcome Refusal)
    → ReadsAll c.told plan.files contents → Ends plan.task (kinds_of plan.files) contents result
    → PlanComesTo c.told c.then c.last plan other → result ≡ other
from_contents laws c plan settled contents result (Ok made) reads ends k =
    let same : k.contents ≡ contents = read_once c.told c.tells plan.files k.contents contents k.whole reads in
    let also : Works plan.task (kinds_of plan.files) contents made = subst (λ xs. Works plan.task (kinds_of plan.files) xs made) same k.holds in
    ends_once laws plan.task settled (kinds_of plan.files) contents result (Ok made) ends also
from_contents laws c plan settled contents result (Err (refusal.ReadFault place)) reads ends k =
    absurd (all_read c.told (CouldNot c.told c.then c.last) plan.files contents place (not_missing c.told c.then c.last c.also_calm) reads k)
from_contents laws c plan settled contents result (Err (refusal.TooLong place)) reads ends k =
    absurd (all_read c.told (TooLong c.told) plan.files contents place (not_longer c.told c.tells) reads k.0)
from_contents laws c plan settled contents result (Err refused) reads ends k =
    let same : k.contents ≡ contents = read_once c.told c.tells plan.files k.contents contents k.whole reads in
    let also : FirstRefused 0 (kinds_of plan.files) contents refused = subst (λ xs. FirstRefused 0 (kinds_of plan.files) xs refused) same k.holds in
    ends_once laws plan.task settled (kinds_of plan.files) contents result (Err refused) ends also

plan_once : WorkLaws → (c : Calm) (plan : Plan) → IsSettled plan.task → (result other : Result Outcome Refusal)
    → PlanComesTo c.told c.before c.now plan result → PlanComesTo c.told c.then c.last plan other → result ≡ other
plan_once laws c plan settled (Ok made) other h k = from_contents laws c plan settled h.contents (Ok made) other h.whole h.holds k
plan_once laws c plan settled (Err (refusal.ReadFault place)) other h k = from_missing c plan place other h k
plan_once laws c plan settled (Err (refusal.TooLong place)) other h k = from_longer c plan place other h.0 k
plan_once laws c plan settled (Err refused) other h k = from_contents laws c plan settled h.contents (Err refused) other h.whole h.holds k

bad_words : (told : Contents) (before now : ℕ) (result : Result Outcome Refusal) → ComesTo told before now None result → result ≡ Err refusal.BadWords
bad_words told before now (Err refusal.BadWords) h = refl
bad_words told before now _ h = absurd h

came_once : WorkLaws → (c : Calm) (plan : Option Plan) → IsSettledPlan plan → (result other : Result Outcome Refusal)
    → ComesTo c.told c.before c.now plan result → ComesTo c.told c.then c.last plan other → result ≡ other
came_once laws c None settled result other h k = bad_words c.told c.before c.now result h ∙ sym (bad_words c.told c.then c.last other k)
came_once laws c (Some plan) settled result other h k = plan_once laws c plan settled result other h k

-- a report that was written whole
record Wrote (met : Met) (put : Put) (answer : Status) : Type 0 where
  end : Ending
  answer_is : answer ≡ ending_status end
  writes : Writes met put end

wrote : (met : Met) (put : Put) (answer : Status) → IsCalm met put answer → Answers met put answer → Wrote met put answer
wrote met put status.Fine calm answers = record { end = ending.Fine; answer_is = refl; writes = answers }
wrote met put status.Shown calm answers = record { end = ending.Shown; answer_is = refl; writes = answers }
wrote met put status.BadWords calm answers = record { end = ending.BadWords; answer_is = refl; writes = answers }
wrote met put status.Refused calm answers = record { end = ending.Refused; answer_is = refl; writes = answers }
wrote met put status.Breach calm answers = record { end = ending.Breach; answer_is = refl; writes = answers }
wrote met put (status.Unknown spent) calm answers = record { end = ending.Unknown spent; answer_is = refl; writes = answers }
wrote met put status.ReadFault calm answers = record { end = ending.ReadFault; answer_is = refl; writes = answers }
wrote met put status.WriteFault calm answers = absurd (calm.no_write_fault answers.rose)
wrote met put status.NoMemory calm answers = absurd (calm.had_memory refl)

pub answer_once : WorkLaws → (met other : Met) (put also : Put) (answer second : Status) → AreAlike met other
    → IsSettledPlan (plan_of met.words) → IsCalm met put answer → IsCalm other also second → Answers met put answer → Answers other also second
    → (answer ≡ second) × TookOneText put also
answer_once laws met other put also answer second alike settled calm quiet answers others =
    let first = wrote met put answer calm answers in
    let later = wrote other also second quiet others in
    let told : other.told ≡ met.told = fun_ext (λ name. sym (alike.contents name)) in
    let c : Calm = record {
      told = met.told;
      tells = calm.tells;
      before = met.faults_before;
      now = met.faults_after;
      calm = calm.no_read_fault;
      then = other.faults_before;
      last = other.faults_after;
      also_calm = quiet.no_read_fault;
    } in
    let right = later.writes.right in
    let came : ComesTo met.told other.faults_before other.faults_after (plan_of other.words) right.result =
    subst (λ t. ComesTo t other.faults_before other.faults_after (plan_of other.words) right.result) told right.came_to in
    let came_here : ComesTo met.told other.faults_before other.faults_after (plan_of met.words) right.result =
    subst (λ words. ComesTo met.told other.faults_before other.faults_after (plan_of words) right.result) (sym alike.words) came in
    let same : first.writes.right.result ≡ right.result =
    came_once laws c (plan_of met.words) settled first.writes.right.result right.result first.writes.right.came_to came_here in
    let reply : IsReply right.result first.end first.writes.text =
    subst (λ r. IsReply r first.end first.writes.text) same first.writes.right.reply in
    let both = replied_once laws right.result first.end later.end first.writes.text later.writes.text reply right.reply in (
      first.answer_is ∙ ap ending_status both.0 ∙ sym later.answer_is,
      record {
        text = first.writes.text;
        first = first.writes.written;
        second = subst (λ text. Appends also.taken_before also.taken_after text) (sym both.1) later.writes.written;
      },
    )
