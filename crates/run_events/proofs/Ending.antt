-- A database that is made, one that is ended, and the site behind a run that went through.
use Rattle.std.proofs.Common.{◌≡◌, ◌<◌, ◌^◌, ℕ, false, zero, suc, inl, inr}
use Rattle.std.proofs.Common.{List, [], ◌∷◌, ◌+◌, Option, refl, sym, ap, subst}
use Rattle.std.specs.Prelude.{length}
use Rattle.std.specs.List.{All}
use Rattle.std.proofs.lemmas.List.Elements.{All-cons, All-nil}
use Rattle.aes_cts.specs.BlockKeys.{AreBytes}
use Rattle.first_rows.specs.Parts.{IsSpec, SpecParts}
use Rattle.kadm_top.specs.Openings.{ABlock, AMoment, Drawn, NoDraw}
use Rattle.kadm_top.specs.Run.{At, Gone, Made, RunEnd, RunEndsAs, Same, Shown}
use Rattle.kadm_top.specs.Run.{Standing, Stands as StandsThen, Stays, place_made}
use Rattle.kadm_top.specs.Statuses.{OnEnd}
use Rattle.kadm_session.specs.Runs.{RunsOn}
use Rattle.kdb_base.specs.Moments.{micros}
use Rattle.kdb_base.specs.declared.outcomes.Status.{Status}
use Rattle.kdb_base.specs.declared.outcomes.Status.TheVariants as status
use Rattle.kdb_disk.proofs.Runs.{at_end}
use Rattle.kdb_disk.specs.Files.{Files}
use Rattle.kdb_disk.specs.View.{View}
use Rattle.kdb_histories.specs.Sites.{Site}
use Rattle.kdb_histories.specs.Stages.{Stage, places}
use Rattle.kdb_places.specs.Places.{point_of}
use Rattle.primary_events.proofs.Coming.{end_comes as site_ends}
use Rattle.primary_events.proofs.Made.{creation_stops}
use Rattle.primary_events.specs.At.{LastIn, StandsFor}
use Rattle.primary_events.specs.Coming.{IsQuiet}
use Rattle.primary_events.specs.Premises.{MayCreate}
use Rattle.run_events.proofs.Coming.{come, comes_behind, history_on, last_none, last_same}
use Rattle.run_events.proofs.Coming.{like_comes, no_history, stands_like, stays}
use Rattle.run_events.specs.Beginning.{AreDrawn}
use Rattle.run_events.specs.Coming.{HasCome, HasHistory, RestsAt, RunsDown}
use Rattle.session_base.specs.Draws.{Draws, block_in, bytes_of, moment_in}
use Rattle.store_files.specs.Recovery.{Creates, Destroys, HasNone}

-- ---- one that is made

bytes_long : (n : ℕ) (stream : ℕ → ℕ) → length (bytes_of n stream) ≡ n
unfolding bytes_of
bytes_long zero stream = refl
bytes_long (suc n) stream = ap suc (bytes_long n (λ i. stream (1 + i)))

bytes_small : (n : ℕ) (stream : ℕ → ℕ) → ((i : ℕ) → stream i < 256) → AreBytes (bytes_of n stream)
unfolding bytes_of
bytes_small zero stream h = All-nil (λ (x : ℕ). x < 2 ^ 8)
bytes_small (suc n) stream h =
    let first : stream 0 < 2 ^ 8 = h 0 in
    All-cons (λ (x : ℕ). x < 2 ^ 8) (stream 0) (bytes_of n (λ i. stream (1 + i))) first
    (bytes_small n (λ i. stream (1 + i)) (λ i. h (1 + i)))

pub made_comes : (s : Site) (spec : SpecParts) (draws : Draws) (old : View) (c : Files) → RestsAt s old
    → (h : HasCome s old.seen) → IsSpec spec
    → AreDrawn draws → All (λ p. micros (point_of p).time < micros (moment_in draws)) (places h.new.ended)
    → HasNone old.seen
    → Creates old (place_made spec draws) c → HasCome s c
made_comes s spec draws old c rests h within drawn later none (inl like) = like_comes s old c rests like
made_comes s spec draws old c rests h within drawn later none (inr (inl still)) =
    comes_behind s h.new c h.runs (stays h.new c h.closed (last_none h.new.history old.seen c h.stands none still))
made_comes s spec draws old c rests h within drawn later none (inr (inr is)) =
    let may : MayCreate h.new spec (moment_in draws) (block_in draws) = record {
      none = no_history h.new.history old.seen h.stands none;
      is = within;
      long = bytes_long 2048 draws.stream;
      bytes = bytes_small 2048 draws.stream drawn.bytes;
      later = later;
    } in
    comes_behind s h.new c h.runs
    (come IsQuiet h.new c (creation_stops h.new spec (moment_in draws) (block_in draws) c may is))

-- ---- one that is ended

none_comes : (s : Site) (history : List Stage) (c : Files) → s.history ≡ history → s.up ≡ false
    → HasNone c → HasCome s c
none_comes s [] c is closed none = stays s c closed (subst (λ (h : List Stage). LastIn h c) (sym is) none)
none_comes s (t ∷ older) c is closed none =
    come IsQuiet s c (site_ends s c (record { last = t; others = older; is = is }) none)

pub end_comes : (s : Site) (old : View) (c : Files) → RestsAt s old → HasCome s old.seen → Destroys old c → HasCome s c
end_comes s old c rests h (inl like) = like_comes s old c rests like
end_comes s old c rests h (inr none) =
    comes_behind s h.new c h.runs (none_comes h.new h.new.history c refl h.closed none)

-- ---- behind a run

pub down_at : (s new : Site) (now : View) → HasHistory s → RunsOn s new → new.up ≡ false
    → ((c : Files) → now.images c → StandsFor new c) → RunsDown s now
down_at s new now history runs closed stands = record {
  new = new;
  runs = runs;
  down = closed;
  stands = stands;
  rests = record { history = history_on s new history runs; each = λ c image. stays new c closed (stands c image) };
}

-- the site for which what is read stands, if each image stands for the same
down_with : (s : Site) (now : View) → HasHistory s → (h : HasCome s now.seen)
    → ((c : Files) → now.images c → StandsFor h.new c) → RunsDown s now
down_with s now history h each = down_at s h.new now history h.runs h.closed each

same_stands : (s : Site) (old now : View) (drawn : Drawn) → ((b : Files) → old.images b → StandsFor s b)
    → Stays drawn old now
    → (c : Files) → now.images c → StandsFor s c
same_stands s old now AMoment stands same c image = stands_like s old c stands (at_end same.leaves c image)
same_stands s old now NoDraw stands same c image = stands c (at_end same.leaves c image)
same_stands s old now ABlock stands same c image = stands c (at_end same.leaves c image)

down : (s : Site) (old now : View) (disk : Standing) → HasHistory s
    → ((drawn : Drawn) → disk ≡ Same drawn → RunsDown s old) → now.images now.seen
    → HasCome s now.seen → StandsThen disk old now → RunsDown s now
down s old now (Same drawn) history before read h stands =
    let d = before drawn refl in
    down_at s d.new now history d.runs d.down (same_stands d.new old now drawn d.stands stands)
down s old now (At place) history before read h stands =
    down_with s now history h
    (λ c image. last_same h.new.history place now.seen c h.stands (stands now.seen read) (stands c image))
down s old now (Made spec draws) history before read h stands =
    down_with s now history h (λ c image. last_same h.new.history (place_made spec draws) now.seen c h.stands
    (stands.place now.seen read) (stands.place c image))
down s old now (Shown at) history before read h stands =
    down_with s now history h (λ c image.
    last_same h.new.history at.place now.seen c h.stands (stands.place now.seen read) (stands.place c image))
down s old now Gone history before read h stands =
    down_with s now history h
    (λ c image. last_none h.new.history now.seen c h.stands (stands.none.each now.seen read) (stands.none.each c image))

pub on_end_down : (result : Status) (s : Site) (old now : View) (out : Option (List ℕ)) (draws : Option Draws)
    (end : RunEnd) → HasHistory s → ((drawn : Drawn) → end.disk ≡ Same drawn → RunsDown s old) → now.images now.seen
    → HasCome s now.seen
    → OnEnd result (λ refused. RunEndsAs out refused draws old now end) → OnEnd result (λ _. RunsDown s now)
on_end_down status.Done s old now out draws end history before read h ends =
    down s old now end.disk history before read h ends.stands
on_end_down status.Refused s old now out draws end history before read h ends =
    down s old now end.disk history before read h ends.stands
on_end_down status.MemoryOut s old now out draws end history before read h ends = tt
on_end_down status.ReadFault s old now out draws end history before read h ends = tt
on_end_down status.WriteFault s old now out draws end history before read h ends = tt
on_end_down status.DiskFault s old now out draws end history before read h ends = tt
on_end_down status.LinkFault s old now out draws end history before read h ends = tt
on_end_down status.InputTooLong s old now out draws end history before read h ends = tt
