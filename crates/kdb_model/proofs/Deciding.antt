-- The refusal of a command, by whatever is taken for its change.
use Rattle.std.proofs.Common.{◌≡◌, ℕ, ◌+◌, ◌<◌, ◌≤◌, Bool, true, false, ◌&&◌, ◌||◌, List, [], ◌∷◌}
use Rattle.std.proofs.Common.{Option, Some, None, refl, sym, ap, subst, ◌∙◌, ◌⊎◌, inl, inr, arith}
use Rattle.std.specs.Prelude.{is_some, nat_lt, option_and_then, option_map, IfOk, Result, Ok, Err, if◌then◌else◌}
use Rattle.std.specs.Option.{option_or}
use Rattle.kadm_commands.specs.Commands.{IsCommand}
use Rattle.kadm_commands.specs.declared.commands.ChangeKeys.{ChangeKeys}
use Rattle.kadm_commands.specs.declared.commands.Command.{Command}
use Rattle.kadm_commands.specs.declared.commands.Command.TheVariants as command
use Rattle.kdb_base.specs.Moment.{Moment}
use Rattle.kdb_base.specs.Moments.{later_moment, micros}
use Rattle.std.proofs.lemmas.Bool.{ltb-true}
use Rattle.kdb_base.specs.declared.outcomes.Refusal.{Refusal}
use Rattle.kdb_base.specs.declared.outcomes.Refusal.TheVariants.{KeysFull, TimeEnd}
use Rattle.kdb_model.specs.Asking.{HasVersions, IsDecided}
use Rattle.kdb_model.specs.Calls.{Call, moment_of}
use Rattle.kdb_model.specs.Entries.{entry}
use Rattle.kdb_model.specs.Refusals.{causes_with, denied, duplicate, few_classes, first, has_last_kvno}
use Rattle.kdb_model.specs.Refusals.{keys_full, locked_down, named_in, needed_name, new_keys, no_active_master}
use Rattle.kdb_model.specs.Refusals.{pass_reused, policy_in_use, protected, puts_many_keys, refusal, rows_full}
use Rattle.kdb_model.specs.Refusals.{strings_full, target, too_large, too_many_masters, too_short, too_soon}
use Rattle.kdb_model.specs.Refusals.{unknown_master, unknown_policy, unknown_principal, unknown_string, when}
use Rattle.kdb_plain.specs.Changes.{HasRoom, effect_on}
use Rattle.kdb_plain.specs.States.{IsValid, princ_named}
use Rattle.kdb_plain.specs.declared.changes.PlainOp.{PlainOp}
use Rattle.kdb_plain.specs.declared.princs.PlainPrinc.{PlainPrinc}
use Rattle.kdb_plain.specs.declared.states.State.{State}
use Rattle.princ_name.specs.Names.{NameParts, printed}
use Rattle.kdb_model.proofs.Accepted.{IsAccepted, accepted, or_false}
use Rattle.kadm_commands.specs.declared.replies.Reply.TheVariants as reply
use Rattle.kdb_model.specs.Steps.{answered, performed, step, unless_refused}
use Rattle.kdb_model.proofs.Stepping.{either_way, refusal_split, step_refused, truth}
use Rattle.kdb_model.proofs.ValidChanges.{change_valid}

-- a list of causes by its front
skip : (a b : Option Refusal) (xs ys : List (Option Refusal)) → a ≡ b → first xs ≡ first ys
    → first (a ∷ xs) ≡ first (b ∷ ys)
unfolding first
skip None b xs ys e h = rw (← e) h
skip (Some r) b xs ys e h = rw (← e) refl

stop : (a b : Option Refusal) (r : Refusal) (xs ys : List (Option Refusal)) → a ≡ Some r → b ≡ Some r
    → first (a ∷ xs) ≡ first (b ∷ ys)
unfolding first
stop a b r xs ys e f = rw (e, f) refl

full_then : (last rest : Bool) (r : Refusal) → last ≡ true → when (last || rest) r ≡ Some r
full_then true rest r e = refl
full_then false rest r e = absurd cc

-- no version of keys is left: what stands behind that cause counts for nothing
last_stops : (s : State) (call : Call) (cmd : Command) (change other : Option PlainOp)
    → has_last_kvno cmd (target s cmd) ≡ true
    → first (causes_with s (record call { command = cmd }) change)
    ≡ first (causes_with s (record call { command = cmd }) other)
unfolding causes_with
last_stops s call (command.ChangeKeys c) change other e =
    skip _ _ _ _ refl (skip _ _ _ _ refl (skip _ _ _ _ refl (skip _ _ _ _ refl (skip _ _ _ _ refl (skip _ _ _ _ refl
    (skip _ _ _ _ refl (skip _ _ _ _ refl (skip _ _ _ _ refl (skip _ _ _ _ refl (skip _ _ _ _ refl (skip _ _ _ _ refl
    (stop _ _ KeysFull _ _
    (full_then (has_last_kvno (command.ChangeKeys c) (target s (command.ChangeKeys c))) _ KeysFull e)
    (full_then (has_last_kvno (command.ChangeKeys c) (target s (command.ChangeKeys c))) _ KeysFull e)))))))))))))
last_stops s call (command.AddPrinc c) change other e = absurd cc
last_stops s call (command.ModPrinc c) change other e = absurd cc
last_stops s call (command.RenPrinc c) change other e = absurd cc
last_stops s call (command.DelPrinc name) change other e = absurd cc
last_stops s call (command.PurgeKeys c) change other e = absurd cc
last_stops s call (command.SetString c) change other e = absurd cc
last_stops s call (command.DelString c) change other e = absurd cc
last_stops s call (command.AddPolicy p) change other e = absurd cc
last_stops s call (command.ModPolicy c) change other e = absurd cc
last_stops s call (command.DelPolicy name) change other e = absurd cc
last_stops s call (command.AddMaster etype) change other e = absurd cc
last_stops s call (command.UseMaster c) change other e = absurd cc
last_stops s call command.PurgeMasters change other e = absurd cc
last_stops s call (command.GetPrinc name) change other e = absurd cc
last_stops s call (command.ListPrincs glob) change other e = absurd cc
last_stops s call (command.GetStrings name) change other e = absurd cc
last_stops s call (command.Extract name) change other e = absurd cc
last_stops s call (command.GetPolicy name) change other e = absurd cc
last_stops s call command.ListPolicies change other e = absurd cc
last_stops s call command.GetPrivs change other e = absurd cc
last_stops s call command.ListMasters change other e = absurd cc
last_stops s call (command.RekeyPrincs glob) change other e = absurd cc
last_stops s call command.Stash change other e = absurd cc
last_stops s call command.Dump change other e = absurd cc

-- no version of master keys is left
many_stop : (s : State) (call : Call) (cmd : Command) (change other : Option PlainOp) (r : Refusal)
    → too_many_masters s cmd ≡ Some r
    → first (causes_with s (record call { command = cmd }) change)
    ≡ first (causes_with s (record call { command = cmd }) other)
unfolding causes_with
many_stop s call (command.AddMaster etype) change other r e =
    skip _ _ _ _ refl (skip _ _ _ _ refl (skip _ _ _ _ refl
    (skip _ _ _ _ refl (skip _ _ _ _ refl (skip _ _ _ _ refl (skip _ _ _ _ refl (skip _ _ _ _ refl (skip _ _ _ _ refl
    (skip _ _ _ _ refl (skip _ _ _ _ refl (skip _ _ _ _ refl (skip _ _ _ _ refl (skip _ _ _ _ refl (skip _ _ _ _ refl
    (stop _ _ r _ _ e e)))))))))))))))
many_stop s call (command.AddPrinc c) change other r e = absurd cc
many_stop s call (command.ModPrinc c) change other r e = absurd cc
many_stop s call (command.ChangeKeys c) change other r e = absurd cc
many_stop s call (command.RenPrinc c) change other r e = absurd cc
many_stop s call (command.DelPrinc name) change other r e = absurd cc
many_stop s call (command.PurgeKeys c) change other r e = absurd cc
many_stop s call (command.SetString c) change other r e = absurd cc
many_stop s call (command.DelString c) change other r e = absurd cc
many_stop s call (command.AddPolicy p) change other r e = absurd cc
many_stop s call (command.ModPolicy c) change other r e = absurd cc
many_stop s call (command.DelPolicy name) change other r e = absurd cc
many_stop s call (command.UseMaster c) change other r e = absurd cc
many_stop s call command.PurgeMasters change other r e = absurd cc
many_stop s call (command.GetPrinc name) change other r e = absurd cc
many_stop s call (command.ListPrincs glob) change other r e = absurd cc
many_stop s call (command.GetStrings name) change other r e = absurd cc
many_stop s call (command.Extract name) change other r e = absurd cc
many_stop s call (command.GetPolicy name) change other r e = absurd cc
many_stop s call command.ListPolicies change other r e = absurd cc
many_stop s call command.GetPrivs change other r e = absurd cc
many_stop s call command.ListMasters change other r e = absurd cc
many_stop s call (command.RekeyPrincs glob) change other r e = absurd cc
many_stop s call command.Stash change other r e = absurd cc
many_stop s call command.Dump change other r e = absurd cc

not_due : (b c : Bool) (r : Refusal) → when (b && false && c) r ≡ None
not_due true c r = refl
not_due false c r = refl

or_nothing : (a : Option Refusal) → option_or a None ≡ a
or_nothing None = refl
or_nothing (Some r) = refl

module _ (s : State) (call : Call) (change : Option PlainOp) (next : call.due ≡ false)
    (made : HasVersions s call.command → change ≡ entry s call) where
  same_first : first (causes_with s call (entry s call)) ≡ first (causes_with s call change)
  same_first =
      elim (truth (has_last_kvno call.command (target s call.command))) [
        | inl last ↦ last_stops s call call.command (entry s call) change last
        | inr more ↦
            elim (either_way (too_many_masters s call.command)) [
              | inl many ↦ many_stop s call call.command (entry s call) change many.0 many.1
              | inr few ↦ ap (λ (o : Option PlainOp). first (causes_with s call o))
                  (sym (made (record { keys = more; masters = few })))
            ]
      ]

  no_end : (b c : Bool) (r : Refusal) (due : Bool) → due ≡ false → when (b && due && c) r ≡ None
  no_end b c r due e = rw e (not_due b c r)

  refusal_is : refusal s call ≡ first (causes_with s call change)
  refusal_is =
      refusal_split s call
      ∙ ap (option_or (first (causes_with s call (entry s call))))
      (no_end (is_some (entry s call)) _ TimeEnd call.due next)
      ∙ or_nothing (first (causes_with s call (entry s call)))
      ∙ same_first

  module _ (why : Option Refusal) (why_made : why ≡ first (causes_with s call change)) where
    accepted_so : why ≡ None → IsAccepted s call call.command change
    accepted_so none = accepted s call change (sym why_made ∙ none)

    change_so : why ≡ None → change ≡ entry s call
    change_so none =
        let a = accepted_so none in
        made (record {
          keys =
              (or_false (has_last_kvno call.command (target s call.command))
              (is_some (new_keys call.command) && puts_many_keys change) a.kvnos).0;
          masters = a.masters;
        })

    room_so : IsValid (moment_of s call) s → IsCommand s.realm call.command → why ≡ None → (op : PlainOp)
        → change ≡ Some op → HasRoom (effect_on op s)
    room_so f is none op at =
        let a = subst (λ (o : Option PlainOp). IsAccepted s call call.command o) at (accepted_so none) in
        (change_valid s call f call.command op is a (sym (change_so none) ∙ at)).few

    pub decided : IsValid (moment_of s call) s → IsCommand s.realm call.command → IsDecided s call change why
    decided f is = record {
      why_is = refusal_is ∙ sym why_made;
      change_is = change_so;
      room = room_so f is;
      masters = λ none. (accepted_so none).masters;
    }

-- ---- what is done then

pub does_refused : (s : State) (call : Call) (change : Option PlainOp) (why : Option Refusal) (r : Refusal)
    → IsDecided s call change why → why ≡ Some r → step s call ≡ answered s (reply.Refused r)
does_refused s call change why r d is = step_refused s call r (d.why_is ∙ is)

pub does_performed : (s : State) (call : Call) (change : Option PlainOp) (why : Option Refusal)
    → IsDecided s call change why → why ≡ None → step s call ≡ performed s call change
unfolding step unless_refused
does_performed s call change why d is =
    let accepted_now : refusal s call ≡ None = d.why_is ∙ is in
    rw accepted_now (ap (performed s call) (sym (d.change_is is)))

-- ---- the list of causes

one_more : (a b : Option Refusal) (xs ys : List (Option Refusal)) → a ≡ b → xs ≡ ys
    → ◌≡◌ {A = List (Option Refusal)} (a ∷ xs) (b ∷ ys)
one_more a b xs ys e h = ap (λ (o : Option Refusal). o ∷ xs) e ∙ ap (λ (os : List (Option Refusal)). b ∷ os) h

module _ (s : State) (call : Call) (change : Option PlainOp) where
  pub causes_are : (a1 a2 a3 a4 a5 a6 a7 a8 a9 a10 a11 a12 a13 a14 a15 a16 a17 a18 a19 : Option Refusal)
      → a1 ≡ unknown_master s call.command → a2 ≡ denied s call → a3 ≡ protected s call.command
      → a4 ≡ duplicate s call.command → a5 ≡ unknown_principal s call.command
      → a6 ≡ locked_down s call change → a7 ≡ unknown_policy s change call.command → a8 ≡ policy_in_use s call.command
      → a9 ≡ too_short s call → a10 ≡ few_classes s call
      → a11 ≡ pass_reused s call → a12 ≡ too_soon s call → a13 ≡ keys_full s change call.command
      → a14 ≡ unknown_string s call.command → a15 ≡ strings_full s call.command
      → a16 ≡ too_many_masters s call.command → a17 ≡ no_active_master s call call.command
      → a18 ≡ rows_full s call.command → a19 ≡ too_large s change
      → first (a1 ∷ a2 ∷ a3 ∷ a4 ∷ a5 ∷ a6 ∷ a7 ∷ a8 ∷ a9 ∷ a10 ∷ a11 ∷ a12 ∷ a13 ∷ a14 ∷ a15 ∷ a16 ∷ a17 ∷ a18 ∷ a19
      ∷ []) ≡ first (causes_with s call change)
  unfolding causes_with
  causes_are a1 a2 a3 a4 a5 a6 a7 a8 a9 a10 a11 a12 a13 a14 a15 a16 a17 a18 a19 e1 e2 e3 e4 e5 e6 e7 e8 e9 e10 e11 e12
      e13 e14 e15 e16 e17 e18 e19 =
      ap first
      (one_more _ _ _ _ e1 (one_more _ _ _ _ e2 (one_more _ _ _ _ e3 (one_more _ _ _ _ e4 (one_more _ _ _ _ e5
      (one_more _ _ _ _ e6 (one_more _ _ _ _ e7 (one_more _ _ _ _ e8 (one_more _ _ _ _ e9 (one_more _ _ _ _ e10
      (one_more _ _ _ _ e11 (one_more _ _ _ _ e12 (one_more _ _ _ _ e13 (one_more _ _ _ _ e14 (one_more _ _ _ _ e15
      (one_more _ _ _ _ e16 (one_more _ _ _ _ e17 (one_more _ _ _ _ e18 (one_more _ _ _ _ e19 refl)))))))))))))))))))

-- ---- answers and moments

pub ok_is : {A E : Type 0} (r : Result A E) (x y : A) → r ≡ Ok x → IfOk r (λ a. a ≡ y) → x ≡ y
ok_is (Ok a) x y e h = let same : a ≡ x = cc in sym same ∙ h
ok_is (Err e) x y is h = absurd cc

pub later_secs : (a b : Moment) → b.usecs < 1000000 → a.secs ≤ (later_moment a b).secs
later_secs a b lt = elim (truth (nat_lt (micros a) (micros b))) [
  | inl e ↦ rw e (omega (arith, ltb-true (micros a) (micros b) e))
  | inr e ↦ rw e (omega arith)
]

-- what is found by the printed form of the name that is needed
by_printed : (princs : List PlainPrinc) (name : Option NameParts)
    → option_and_then (λ n. princ_named n princs) (option_map printed name) ≡ option_and_then (named_in princs) name
by_printed princs None = refl
by_printed princs (Some name) = refl

pub target_is : (s : State) (cmd : Command) (needed : Option (List ℕ)) (found : Option PlainPrinc)
    → needed ≡ option_map printed (needed_name cmd) → found ≡ option_and_then (λ n. princ_named n s.princs) needed
    → found ≡ target s cmd
unfolding target
target_is s cmd needed found texts is =
    is ∙ ap (option_and_then (λ n. princ_named n s.princs)) texts ∙ by_printed s.princs (needed_name cmd)
