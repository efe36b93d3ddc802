-- The keys that new random keys leave are told before they are made.
use Rattle.std.proofs.Common.{◌≡◌, ℕ, ◌+◌, Bool, true, false, List, [], ◌∷◌, ◌++◌}
use Rattle.std.proofs.Common.{map, nat_eq, refl, sym, ap, ◌∙◌, subst, append-nil}
use Rattle.std.proofs.lemmas.Bool.{eq-eqb}
use Rattle.std.proofs.lemmas.Option.{same_Some}
use Rattle.std.proofs.lemmas.Slice.Eq.{bytes_eq-Decides}
use Rattle.std.specs.List.{filter}
use Rattle.std.specs.Prelude.{Option, Some, None, Result, Ok, Err, IfOk, find, if◌then◌else◌, option_map}
use Rattle.std.specs.Str.{bytes_eq}
use Rattle.kadm_commands.specs.declared.replies.Reply.{Reply}
use Rattle.kadm_commands.specs.declared.replies.Reply.TheVariants as reply
use Rattle.kadm_keytabs.specs.Additions.{keys_found, keys_told}
use Rattle.kadm_keytabs.specs.Renewals.{Wanted, ask_for, change_for, keys_behind, refused_in, renew_command}
use Rattle.kadm_keytabs.specs.Renewing.{AreFresh, extract_at, fresh_keys, version_told}
use Rattle.kdb_base.specs.Key.{Key}
use Rattle.kdb_base.specs.Moment.{Moment}
use Rattle.kdb_base.specs.declared.extracts.Extract.{Extract}
use Rattle.kdb_base.specs.declared.keys.Etype.{Etype}
use Rattle.kdb_base.specs.declared.outcomes.Refusal.{Refusal}
use Rattle.kdb_base.specs.declared.outcomes.Refusal.TheVariants.{Protected}
use Rattle.kdb_histories.specs.Asks.{Answer, Replied, commanded, outcome}
use Rattle.kdb_histories.specs.Seen.{Seen, after_ask, answer_at, due_at}
use Rattle.kdb_model.specs.Calls.{Call, call_of, change_point}
use Rattle.kdb_model.specs.Entries.{entry, entry_of}
use Rattle.kdb_model.specs.Fields.{rekeyed_head}
use Rattle.kdb_model.specs.Records.{rekeyed}
use Rattle.kdb_model.specs.Refusals.{is_protected, named_in, refusal}
use Rattle.kdb_model.specs.Steps.{performed, step, unless_refused, with_point}
use Rattle.kdb_plain.proofs.Named.{put_own}
use Rattle.kdb_plain.specs.Changes.{effect_on, name_of, put_princ}
use Rattle.kdb_plain.specs.States.{is_named, princ_named}
use Rattle.kdb_plain.specs.declared.changes.PlainOp.{PlainOp}
use Rattle.kdb_plain.specs.declared.changes.PlainOp.TheVariants.{PutPrinc}
use Rattle.kdb_plain.specs.declared.princs.PlainPrinc.{PlainPrinc}
use Rattle.kdb_plain.specs.declared.states.State.{State}
use Rattle.plain_keys.specs.Keys.{extract_of, extracts, has_kvno, item_of, items_of, newest_kvno, random_keys}
use Rattle.plain_keys.specs.declared.items.PlainItem.{PlainItem}
use Rattle.princ_name.specs.Names.{NameParts, printed}

-- ---- versions

-- the first key has its own version
pub version_is : (keys : List PlainItem) → version_told (extracts keys) ≡ newest_kvno keys
unfolding extracts
version_is [] = refl
version_is (k ∷ keys) = by (nat_eq k.kvno k.kvno) (eq-eqb k.kvno k.kvno refl)
  where
    by : (b : Bool) → b ≡ true
        → version_told (map extract_of (if b then k ∷ filter (has_kvno k.kvno) keys else filter (has_kvno k.kvno) keys))
        ≡ k.kvno
    by true e = refl
    by false e = absurd cc

-- keys of one version are all told
all_told : (kvno : ℕ) (keys : List Key)
    → map extract_of (filter (has_kvno kvno) (items_of kvno keys)) ≡ map (extract_at kvno) keys
unfolding items_of
all_told kvno [] = refl
all_told kvno (k ∷ keys) = by (nat_eq kvno kvno) (eq-eqb kvno kvno refl) (all_told kvno keys)
  where
    by : (b : Bool) → b ≡ true
        → map extract_of (filter (has_kvno kvno) (map (item_of kvno) keys)) ≡ map (extract_at kvno) keys
        → map extract_of (if b then item_of kvno k ∷ filter (has_kvno kvno) (map (item_of kvno) keys)
        else filter (has_kvno kvno) (map (item_of kvno) keys)) ≡ extract_at kvno k ∷ map (extract_at kvno) keys
    by true e rest = ap (λ (xs : List Extract). extract_at kvno k ∷ xs) rest
    by false e rest = absurd cc

pub told_of : (kvno : ℕ) (keys : List Key) → extracts (items_of kvno keys) ≡ map (extract_at kvno) keys
unfolding extracts items_of
told_of kvno [] = refl
told_of kvno (k ∷ keys) = all_told kvno (k ∷ keys)

-- ---- the principal

found_is : (name : List ℕ) (princs : List PlainPrinc) (q : PlainPrinc) → find (is_named name) princs ≡ Some q
    → q.name ≡ name
found_is name [] q e = absurd cc
found_is name (p ∷ princs) q e = by (bytes_eq p.name name) refl (found_is name princs q) e
  where
    by : (b : Bool) → bytes_eq p.name name ≡ b → (find (is_named name) princs ≡ Some q → q.name ≡ name)
        → (if b then Some p else find (is_named name) princs) ≡ Some q → q.name ≡ name
    by true is rest f = sym (ap name_of (same_Some p q f)) ∙ (bytes_eq-Decides p.name name).0 is
    by false is rest f = rest f

named_is : (name : List ℕ) (princs : List PlainPrinc) (q : PlainPrinc) → princ_named name princs ≡ Some q
    → q.name ≡ name
unfolding princ_named
named_is name princs q e = found_is name princs q e

put_found : (q : PlainPrinc) (s : State) → princ_named q.name (put_princ q s).princs ≡ Some q
unfolding princ_named
put_found q s = put_own name_of q s.princs

-- ---- what is told, by its parts

abbrev told_when : Bool → Option PlainPrinc → Result (List Extract) Refusal
told_when b found = if b then Err Protected else keys_found found

record IsTold (b : Bool) (found : Option PlainPrinc) (old : List Extract) : Type 0 where
  princ : PlainPrinc
  free : b ≡ false
  there : found ≡ Some princ
  told : extracts princ.keys ≡ old

told_parts : (b : Bool) (found : Option PlainPrinc) (old : List Extract) → told_when b found ≡ Ok old
    → IsTold b found old
told_parts true found old e = absurd cc
told_parts false None old e = absurd cc
told_parts false (Some q) old e = record { princ = q; free = refl; there = refl; told = cc }

told_again : (b : Bool) (found : Option PlainPrinc) (q : PlainPrinc) → b ≡ false → found ≡ Some q
    → told_when b found ≡ Ok (extracts q.keys)
told_again b found q free there = ap (λ (x : Bool). told_when x found) free ∙ ap keys_found there

-- ---- the state after the command

abbrev renew_call : NameParts → NameParts → List Etype → Moment → List ℕ → Bool → Call
renew_call client name etypes clock random due = call_of client None (renew_command name etypes) clock random due

performed_state : (s : State) (call : Call) → refused_in (step s call).reply ≡ None
    → (step s call).state ≡ (performed s call (entry s call)).state
unfolding step unless_refused
performed_state s call e = by (refusal s call) e
  where
    by : (r : Option Refusal) → refused_in (unless_refused s call r).reply ≡ None
        → (unless_refused s call r).state ≡ (performed s call (entry s call)).state
    by None e = refl
    by (Some why) e = absurd cc

put_state : (s : State) (call : Call) (q : PlainPrinc) → entry s call ≡ Some (PutPrinc q)
    → (performed s call (entry s call)).state ≡ with_point (change_point s call) (put_princ q s)
unfolding performed effect_on
put_state s call q e = ap (λ (o : Option PlainOp). (performed s call o).state) e

entry_there : (s : State) (call : Call) (name : NameParts) (etypes : List Etype) (q : PlainPrinc)
    → named_in s.princs name ≡ Some q
    → entry_of s call (renew_command name etypes) ≡ Some (PutPrinc (rekeyed s call (change_for name etypes) q))
unfolding entry_of
entry_there s call name etypes q e = ap (λ (o : Option PlainPrinc).
    option_map (λ (x : PlainPrinc). PutPrinc (rekeyed s call (change_for name etypes) x)) o) e

rekeyed_name : (s : State) (call : Call) (name : NameParts) (etypes : List Etype) (q : PlainPrinc)
    → (rekeyed s call (change_for name etypes) q).name ≡ q.name
unfolding rekeyed rekeyed_head
rekeyed_name s call name etypes q = refl

rekeyed_keys : (s : State) (call : Call) (name : NameParts) (etypes : List Etype) (q : PlainPrinc)
    → (rekeyed s call (change_for name etypes) q).keys
    ≡ items_of (newest_kvno q.keys + 1) (random_keys call.random etypes) ++ []
unfolding rekeyed
rekeyed_keys s call name etypes q = refl

-- its keys are the random ones, of the next version
pub fresh_step : (s : State) (client name : NameParts) (etypes : List Etype) (clock : Moment) (random : List ℕ)
    (due : Bool) (old : List Extract)
    → refused_in (step s (renew_call client name etypes clock random due)).reply ≡ None → keys_told s name ≡ Ok old
    → keys_told (step s (renew_call client name etypes clock random due)).state name ≡ Ok (fresh_keys old random etypes)
fresh_step s client name etypes clock random due old free told =
    let call = renew_call client name etypes clock random due in
    let t = told_parts (is_protected s.realm name) (named_in s.princs name) old told in
    let r = rekeyed s call (change_for name etypes) t.princ in
    let fresh = random_keys random etypes in
    let state_is : (step s call).state ≡ with_point (change_point s call) (put_princ r s) =
    performed_state s call free ∙ put_state s call r (entry_there s call name etypes t.princ t.there) in
    let there : named_in (put_princ r s).princs name ≡ Some r =
    subst (λ (n : List ℕ). princ_named n (put_princ r s).princs ≡ Some r)
    (rekeyed_name s call name etypes t.princ ∙ named_is (printed name) s.princs t.princ t.there) (put_found r s) in
    let keys : extracts r.keys ≡ fresh_keys old random etypes =
    ap extracts (rekeyed_keys s call name etypes t.princ ∙ append-nil (items_of (newest_kvno t.princ.keys + 1) fresh))
    ∙ told_of (newest_kvno t.princ.keys + 1) fresh
    ∙ ap (λ (n : ℕ). map (extract_at (n + 1)) fresh) (sym (version_is t.princ.keys) ∙ ap version_told t.told) in
    ap (λ (x : State). keys_told x name) state_is
    ∙ told_again (is_protected s.realm name) (named_in (put_princ r s).princs name) r t.free there
    ∙ ap (λ (xs : List Extract). Ok xs) keys

-- ---- as it is asked of a primary

said_in : Answer → Reply
said_in (Replied reply) = reply
said_in other = reply.Refused Protected

-- what is told before the command is what is told behind it
pub fresh_behind : (at : Seen) (w : Wanted) (now : Moment) (random : List ℕ) (answered : Reply) (keys : List Extract)
    → answer_at (ask_for w now random) at ≡ Replied answered → refused_in answered ≡ None
    → AreFresh at.state w.name random w.etypes keys
    → keys_told (after_ask (ask_for w now random) at).state w.name ≡ Ok keys
unfolding outcome commanded said_in
fresh_behind at w now random answered keys is free fresh =
    fresh_step at.state w.client w.name w.etypes now random (due_at (ask_for w now random) at) fresh.old
    (ap (λ (r : Reply). refused_in r) (ap said_in is) ∙ free) fresh.told
    ∙ ap (λ (xs : List Extract). Ok xs) (sym fresh.are)

pub behind_accepted : (refusal : Option Refusal) (keys : List Extract) (told : Result (List Extract) Refusal)
    → refusal ≡ None → told ≡ Ok keys → Ok keys ≡ keys_behind refusal told
behind_accepted refusal keys told none is = sym (ap (λ (r : Option Refusal). keys_behind r told) none ∙ is)

pub behind_refused : (refusal : Option Refusal) (why : Refusal) (told : Result (List Extract) Refusal)
    → refusal ≡ Some why → Err why ≡ keys_behind refusal told
behind_refused refusal why told is = sym (ap (λ (r : Option Refusal). keys_behind r told) is)

-- the keys that are told now, and those that are to follow them
pub fresh_so : {E F : Type 0} (result : Result (List Extract) E) (s : State) (name : NameParts) (random : List ℕ)
    (etypes : List Etype) (slice old : List Extract)
    (was : Result (Result (List Extract) Refusal) F) (told : Result (List Extract) Refusal)
    → IfOk was (λ t. t ≡ keys_told s name) → was ≡ Ok told → told ≡ Ok old → slice ≡ old
    → IfOk result (λ keys. keys ≡ fresh_keys slice random etypes)
    → IfOk result (λ keys. AreFresh s name random etypes keys)
fresh_so (Ok keys) s name random etypes slice old was told are is some same fresh = record {
  old = slice;
  told = sym (subst (λ (w : Result (Result (List Extract) Refusal) _). IfOk w (λ t. t ≡ keys_told s name)) is are)
      ∙ some ∙ ap (λ (xs : List Extract). Ok xs) (sym same);
  are = fresh;
}
fresh_so (Err e) s name random etypes slice old was told are is some same fresh = tt
