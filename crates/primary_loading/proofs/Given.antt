-- A dump as a primary is given it: what is judged is the primary's own.
use Rattle.std.proofs.Common.{◌≡◌, ℕ, Bool, true, false, List, Option, Result}
use Rattle.std.proofs.Common.{Ok, Err, refl, sym, ap, subst, ◌∙◌, inl, inr}
use Rattle.std.specs.Prelude.{OnOk}
use Rattle.dump_text.specs.declared.dumps.Dump.{Dump}
use Rattle.kdb_base.specs.Moment.{Moment}
use Rattle.kdb_base.specs.declared.moments.Point.{Point}
use Rattle.kdb_base.specs.declared.outcomes.Halt.TheVariants.{MemoryOut}
use Rattle.kdb_base.specs.declared.outcomes.Refusal.{Refusal}
use Rattle.kdb_base.specs.declared.outcomes.Refusal.TheVariants.{TimeEnd}
use Rattle.kdb_base.specs.declared.outcomes.Stop.{Stop}
use Rattle.kdb_base.specs.declared.outcomes.Stop.TheVariants as stop
use Rattle.kdb_base.specs.declared.versions.Master.{Master}
use Rattle.kdb_histories.specs.Calls.{HasTimeLeft}
use Rattle.primary_core.specs.Opened.{Opened, place_of}
use Rattle.primary_loading.specs.Judging.{IsDumpCause, IsTaken}
use Rattle.primary_loading.specs.Loading.{IsFilled, LoadRefused, LoadsWith, Takes, load_time}
use Rattle.princ_rows.specs.Rows.{RowLists}
use Rattle.stash_opening.specs.Answers.{Gives, Refuses}
use Rattle.store_files.specs.Kept.{Kept}

-- ---- answers

pub gives_halt : (s : Stop) (masters : List Master) → Gives (Err s) masters → s ≡ stop.Halt MemoryOut
gives_halt (stop.Refused why) masters h = absurd h
gives_halt (stop.Halt halt) masters h = ap stop.Halt h

pub refuses_any : (A : Type 0) (s : Stop) (why : Refusal) → Refuses {A = List Master} (Err s) why
    → Refuses {A = A} (Err s) why
refuses_any A (stop.Refused other) why h = h
refuses_any A (stop.Halt halt) why h = h

pub halt_refuses : (A : Type 0) (s : Stop) (why : Refusal) → s ≡ stop.Halt MemoryOut → Refuses {A = A} (Err s) why
halt_refuses A (stop.Refused other) why e = absurd cc
halt_refuses A (stop.Halt halt) why e = cc

pub halt_loads : (A : Type 0) (s : Stop) (found masters : List Master) → s ≡ stop.Halt MemoryOut
    → LoadsWith {A = A} (Err s) found masters
halt_loads A (stop.Refused other) found masters e = absurd cc
halt_loads A (stop.Halt halt) found masters e = tt

pub filled_with : {A : Type 0} (r : Result A Stop) (old new : Opened) (rows : RowLists) (found : List Master)
    (base : Point) (masters : List Master)
    → OnOk r (IsFilled old new rows found base) → ((why : Refusal) → r ≡ Err (stop.Refused why) → ⊥) → found ≡ masters
    → LoadsWith r new.masters masters
filled_with (Ok a) old new rows found base masters f never e = f.masters_are ∙ e
filled_with (Err (stop.Refused why)) old new rows found base masters f never e = never why refl
filled_with (Err (stop.Halt halt)) old new rows found base masters f never e = tt

never_both : (b : Bool) → b ≡ true → b ≡ false → ⊥
never_both b e f = let both : true ≡ false = sym e ∙ f in absurd cc

-- ---- what is judged

-- the stash, its file, the realm and the seconds are the primary's
pub record IsGiven (o : Opened) (clock : Moment) (stash : Option (List ℕ)) (file : ℕ) (realm : List ℕ)
    (secs : ℕ) : Type 0 where
  pub stash_is : stash ≡ (place_of o).stash
  pub file_is : file ≡ o.kept.control.stash
  pub realm_is : realm ≡ o.kept.realm
  pub secs_is : secs ≡ (load_time clock (place_of o)).secs

-- they are read from the primary's database
pub given_by : (o : Opened) (clock : Moment) (stash : Option (List ℕ)) (file : ℕ) (realm : List ℕ) (secs : ℕ)
    (kept : Kept) → kept ≡ o.kept → stash ≡ kept.stash
    → file ≡ kept.control.stash → realm ≡ o.kept.realm → secs ≡ (load_time clock (place_of o)).secs
    → IsGiven o clock stash file realm secs
given_by o clock stash file realm secs kept is stash_is file_is realm_is secs_is = record {
  stash_is = stash_is ∙ ap (λ (k : Kept). k.stash) is;
  file_is = file_is ∙ ap (λ (k : Kept). k.control.stash) is;
  realm_is = realm_is;
  secs_is = secs_is;
}

module _ (o : Opened) (clock : Moment) (dump : Dump) (stash : Option (List ℕ)) (file : ℕ) (realm : List ℕ) (secs : ℕ)
    (given : IsGiven o clock stash file realm secs) where
  pub takes_given : (masters : List Master) → Takes o clock dump masters → IsTaken stash realm secs dump masters
  takes_given masters t =
      subst (λ (x : Option (List ℕ)). IsTaken x realm secs dump masters) (sym given.stash_is)
      (subst (λ (x : List ℕ). IsTaken (place_of o).stash x secs dump masters) (sym given.realm_is)
      (subst (λ (x : ℕ). IsTaken (place_of o).stash o.kept.realm x dump masters) (sym given.secs_is) t))

  cause_given : (why : Refusal)
      → IsDumpCause (place_of o).stash o.kept.control.stash o.kept.realm (load_time clock (place_of o)).secs dump why
      → IsDumpCause stash file realm secs dump why
  cause_given why cause =
      subst (λ (x : Option (List ℕ)). IsDumpCause x file realm secs dump why) (sym given.stash_is)
      (subst (λ (x : ℕ). IsDumpCause (place_of o).stash x realm secs dump why) (sym given.file_is)
      (subst (λ (x : List ℕ). IsDumpCause (place_of o).stash o.kept.control.stash x secs dump why) (sym given.realm_is)
      (subst (λ (x : ℕ). IsDumpCause (place_of o).stash o.kept.control.stash o.kept.realm x dump why)
      (sym given.secs_is) cause)))

  module _ (whole : o.kept.broken ≡ false) (why : Refusal) where
    pub refused_given : (A : Type 0) (s : Stop)
        → ((masters : List Master) → IsTaken stash realm secs dump masters → Gives (Err s) masters)
        → (IsDumpCause stash file realm secs dump why → Refuses {A = List Master} (Err s) why)
        → LoadRefused o clock dump why → Refuses {A = A} (Err s) why
    refused_given A s complete only (inl closed) = absurd (never_both o.kept.broken closed.broken whole)
    refused_given A s complete only (inr (inl d)) = refuses_any A s why (only (cause_given why d.cause))
    refused_given A s complete only (inr (inr e)) =
        halt_refuses A s why (gives_halt s e.masters (complete e.masters (takes_given e.masters e.takes)))

    pub taken_given : (IsDumpCause stash file realm secs dump why → ⊥) → HasTimeLeft (place_of o)
        → LoadRefused o clock dump why → ⊥
    taken_given never left (inl closed) = never_both o.kept.broken closed.broken whole
    taken_given never left (inr (inl d)) = never (cause_given why d.cause)
    taken_given never left (inr (inr e)) = e.ended left

    pub late_given : (IsDumpCause stash file realm secs dump why → ⊥) → LoadRefused o clock dump why → TimeEnd ≡ why
    late_given never (inl closed) = absurd (never_both o.kept.broken closed.broken whole)
    late_given never (inr (inl d)) = absurd (never (cause_given why d.cause))
    late_given never (inr (inr e)) = sym e.why_is
