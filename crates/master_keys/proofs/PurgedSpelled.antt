-- Without some of its versions, the record of a chain still has a spelling.
use Rattle.std.proofs.Common.{◌≡◌, ◌≤◌, Bool, true, false, List, [], ◌∷◌, length}
use Rattle.std.proofs.Common.{refl, sym, ap, subst, ◌∙◌, arith, Option, Some, ℕ}
use Rattle.std.specs.Prelude.{cond, filter, is_some, not, option_map}
use Rattle.std.specs.List.{Contains, list_all}
use Rattle.std.proofs.lemmas.Bool.{and_from, and_parts}
use Rattle.std.proofs.lemmas.List.Elements.{All-filter, recursion_from_All}
use Rattle.std.proofs.lemmas.List.Filters.{length-filter_both}
use Rattle.kdb_base.specs.declared.versions.Activation.{Activation}
use Rattle.kdb_base.specs.declared.versions.Master.{Master}
use Rattle.tagged_data.specs.Numbers.{IsVersion}
use Rattle.tagged_data.specs.Versions.{IsActivation, length-activations_text}
use Rattle.princ_record.specs.Facts.{IsChain as IsPart, IsChainOr}
use Rattle.princ_keys.specs.Keys.{IsKey, are_falling, is_below}
use Rattle.princ_record.specs.Princs.{IsPrinc}
use Rattle.princ_record.specs.declared.facts.ChainPart.{ChainPart}
use Rattle.princ_keys.specs.declared.keys.KeyItem.{KeyItem}
use Rattle.princ_record.specs.declared.princs.Princ.{Princ}
use Rattle.master_keys.specs.Chain.{IsChain}
use Rattle.master_keys.specs.Purging.{live_masters, live_part, purged_record}
use Rattle.master_keys.specs.Versions.{is_live, last_version}
use Rattle.master_keys.proofs.Added.{chain_length}
use Rattle.master_keys.proofs.Live.{live_chain_is, rising_filter}
use Rattle.master_keys.proofs.Spelled.{chain_spelled, master_versions, salts_of}

all_step : {A : Type 0} (p : A → Bool) (b : Bool) (x : A) (xs : List A) → p x ≡ true → list_all p xs ≡ true
    → list_all p (cond b (x ∷ xs) xs) ≡ true
all_step p true x xs h t = and_from (p x) (list_all p xs) h t
all_step p false x xs h t = t

all_kept : {A : Type 0} (p q : A → Bool) (xs : List A) → list_all p xs ≡ true → list_all p (filter q xs) ≡ true
all_kept p q [] h = refl
all_kept p q (x ∷ xs) h =
    let parts = and_parts (p x) (list_all p xs) h in
    all_step p (q x) x (filter q xs) parts.0 (all_kept p q xs parts.1)

falling_step : (b : Bool) (k : KeyItem) (keys : List KeyItem) → list_all (is_below k) keys ≡ true
    → are_falling keys ≡ true → are_falling (cond b (k ∷ keys) keys) ≡ true
unfolding are_falling
falling_step true k keys h t = and_from (list_all (is_below k) keys) (are_falling keys) h t
falling_step false k keys h t = t

falling_kept : (q : KeyItem → Bool) (keys : List KeyItem) → are_falling keys ≡ true → are_falling (filter q keys) ≡ true
unfolding are_falling
falling_kept q [] h = refl
falling_kept q (k ∷ keys) h =
    let parts = and_parts (list_all (is_below k) keys) (are_falling keys) h in
    falling_step (q k) k (filter q keys) (all_kept (is_below k) q keys parts.0) (falling_kept q keys parts.1)

few_left : {A : Type 0} (p : A → Bool) (xs : List A) → length (filter p xs) ≤ length xs
few_left p xs = let both = length-filter_both p (λ x. not (p x)) (λ x. refl) xs in omega arith

pub purged_spelled : (dead : List ℕ) (entry : Princ) (masters : List Master) → IsChain entry masters
    → (Contains dead (last_version masters) → ⊥) → IsPrinc entry → IsPrinc (purged_record dead entry)
unfolding purged_record live_part live_masters
purged_spelled dead entry masters h none f =
    let keys = filter (λ (k : KeyItem). is_live dead k.kvno) entry.keys in
    let part = live_part dead h.under.part in
    let there : is_some entry.chain ≡ true = ap is_some h.under.part_is in
    let chain : option_map (live_part dead) entry.chain ≡ Some part =
    ap (option_map (live_part dead)) h.under.part_is in
    let old : IsPart h.under.part = subst IsChainOr h.under.part_is f.facts.chain in
    let left : IsChain (record entry { keys = keys; chain = Some part }) (live_masters dead masters) =
    subst (λ (c : Option ChainPart). IsChain (record entry { keys = keys; chain = c }) (live_masters dead masters))
    chain (live_chain_is dead entry masters h none) in
    let short = old.activations_short in
    let room = f.keys.few in
    subst (λ (c : Option ChainPart). IsPrinc (record entry { keys = keys; chain = c })) (sym chain)
    (chain_spelled entry entry.mkvno keys part (live_masters dead masters) f there f.facts.mkvno left
    (recursion_from_All (λ (m : Master). IsVersion m.version) (live_masters dead masters)
    (All-filter (λ (m : Master). is_live dead m.version)
    (λ (m : Master). IsVersion m.version) masters (master_versions entry masters h f)))
    (omega (arith, few_left (λ (m : Master). is_live dead m.version) masters, chain_length entry masters h))
    (salts_of keys
    (recursion_from_All IsKey keys (All-filter (λ (k : KeyItem). is_live dead k.kvno) IsKey entry.keys f.keys.each)))
    (falling_kept (λ (k : KeyItem). is_live dead k.kvno) entry.keys
    (f.masters (sym f.facts.chain_there ∙ there)).falling)
    (record {
      each = All-filter (λ (a : Activation). is_live dead a.version) IsActivation h.under.part.activations
          old.activations.each;
      rising = rising_filter (λ (a : Activation). a.version) (is_live dead) h.under.part.activations part.activations
          old.activations.rising refl;
    })
    (omega (
      arith,
      length-activations_text h.under.part.activations,
      length-activations_text part.activations,
      few_left (λ (a : Activation). is_live dead a.version) h.under.part.activations,
    )))
