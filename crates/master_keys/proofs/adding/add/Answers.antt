use Rattle.std.proofs.Common.{List, ◌+◌, ◌∙◌, ap, arith, length, map, sym, subst}
use Rattle.kdb_base.specs.Versions.{AreRising}
use Rattle.kdb_base.specs.declared.versions.Activation.{Activation}
use Rattle.kdb_base.specs.declared.versions.AuxKey.{AuxKey}
use Rattle.princ_record.specs.declared.princs.Princ.{Princ}
use Rattle.master_keys.specs.Adding.{IsInactive, activations_in, added_record, aux_keys, next_version}
use Rattle.master_keys.proofs.Added.{added_rising, aux_versions, chain_is}
use Rattle.master_keys.proofs.Added.{chain_length, masters_are, old_types, record_is}
use Rattle.master_keys.proofs.AddedSpelled.{added_spelled}
use Rattle.master_keys.proofs.Live.{last_is_named}
use Rattle.master_keys.proofs.NewActivations.{next_inactive, same_activations}
use Rattle.master_keys.proofs.adding.add.Goals as goal

pub overflow_add-version : goal.overflow_add-version
overflow_add-version c = let last = last_is_named c.args.entry.now c.args.masters.now c.requires.chain in let few =
    c.requires.greatest in omega arith

pub added_keys-requires-clause-types : goal.added_keys-requires-clause-types
added_keys-requires-clause-types c = rw (c.as_slice-items.ensures, c.as_slice-older.ensures.value)
    (old_types c.args.entry.now c.args.masters.now c.requires.chain)

pub added_keys-requires-clause-random : goal.added_keys-requires-clause-random
added_keys-requires-clause-random c =
    let len = ap length c.as_slice-items.ensures ∙ chain_length c.args.entry.now c.args.masters.now c.requires.chain in
    let few = c.requires.few in
    let all = c.fits-random in
    omega arith

pub aux_keys-requires : goal.aux_keys-requires
aux_keys-requires c =
    let len = ap length c.as_slice-items.ensures ∙ chain_length c.args.entry.now c.args.masters.now c.requires.chain in
    let same = ap length c.as_slice-older.ensures.value in
    let few = c.requires.few in
    let all = c.fits-random in
    omega arith

pub from_vec-requires : goal.from_vec-requires
from_vec-requires c =
    let versions = ap (map (λ (a : AuxKey). a.version)) c.in_ok-aux.ensures.keys ∙ aux_versions c.args.key.now
    c.args.random.now (1 + length c.as_slice-items.result.now) c.as_slice-older.result.now in
    subst AreRising (sym versions) c.as_slice-older.ensures.rising

pub push_master-requires : goal.push_master-requires
push_master-requires c =
    added_rising c.args.entry.now c.args.masters.now
    (record { version = c.args.entry.now.mkvno + 1; key = c.args.key.now }) c.requires.chain (omega arith)

pub returns-clause-entry : goal.returns-clause-entry
returns-clause-entry c =
    c.in_ok-added.ensures
    ∙ record_is c.args.entry.now c.args.masters.now c.args.key.now c.args.random.now c.requires.chain
    c.as_slice-items.result.now c.in_ok-keys.keys.items c.as_slice-older.result.now c.in_ok-aux.aux.items
    c.from_vec.result
    c.as_slice-items.ensures c.as_slice-older.ensures.value c.in_ok-keys.ensures.keys c.in_ok-aux.ensures.keys
    c.from_vec.ensures

pub returns-clause-masters : goal.returns-clause-masters
returns-clause-masters c = c.in_ok-all.ensures
    ∙ masters_are c.args.entry.now c.args.masters.now c.args.key.now c.args.random.now c.requires.chain

pub returns-clause-chain : goal.returns-clause-chain
returns-clause-chain c =
    let chain =
    chain_is c.args.entry.now c.args.masters.now c.args.key.now c.args.random.now c.requires.chain
    c.as_slice-items.result.now c.in_ok-keys.keys.items c.as_slice-older.result.now c.in_ok-aux.aux.items
    c.from_vec.result
    c.as_slice-items.ensures c.as_slice-older.ensures.value c.in_ok-keys.ensures.keys c.in_ok-aux.ensures.keys
    c.from_vec.ensures c.in_ok-keys.ensures.holds c.in_ok-aux.ensures.are in
    rw (returns-clause-entry c, returns-clause-masters c) chain

pub returns-clause-spelled : goal.returns-clause-spelled
returns-clause-spelled c f =
    let chain =
    chain_is c.args.entry.now c.args.masters.now c.args.key.now c.args.random.now c.requires.chain
    c.as_slice-items.result.now c.in_ok-keys.keys.items c.as_slice-older.result.now c.in_ok-aux.aux.items
    c.from_vec.result
    c.as_slice-items.ensures c.as_slice-older.ensures.value c.in_ok-keys.ensures.keys c.in_ok-aux.ensures.keys
    c.from_vec.ensures c.in_ok-keys.ensures.holds c.in_ok-aux.ensures.are in
    rw (returns-clause-entry c) (added_spelled c.args.entry.now c.args.masters.now c.args.key.now c.args.random.now
    c.requires.chain f c.requires.greatest c.requires.few chain)

pub returns-clause-activations : goal.returns-clause-activations
unfolding added_record
returns-clause-activations c =
    ap (λ (p : Princ). activations_in p.chain) (returns-clause-entry c)
    ∙ same_activations (aux_keys c.args.key.now c.args.random.now (1 + length c.args.entry.now.keys) c.args.masters.now)
    c.args.entry.now.chain

pub returns-clause-inactive : goal.returns-clause-inactive
returns-clause-inactive c listed =
    subst (λ (list : List Activation). IsInactive (next_version c.args.masters.now) list)
    (sym (returns-clause-activations c))
    (next_inactive c.args.entry.now c.args.masters.now (activations_in c.args.entry.now.chain) c.requires.chain listed)
