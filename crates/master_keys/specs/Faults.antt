-- What is not opened, and what it is for the caller.
use Rattle.master_keys.specs.declared.faults.Unopened.{Unopened}
use Rattle.master_keys.specs.declared.faults.Unopened.TheVariants as unopened
use Rattle.master_keys.specs.declared.faults.ChainFault.{ChainFault}
use Rattle.master_keys.specs.declared.faults.ChainFault.TheVariants as chain
use Rattle.sha2_profile.specs.declared.faults.UnsealFault.{UnsealFault}
use Rattle.sha2_profile.specs.declared.faults.UnsealFault.TheVariants as seal

-- a text that is too short, or has a wrong tag, is not opened by the key
abbrev pub unopened_by : UnsealFault → Unopened
unopened_by seal.Short = unopened.Wrong
unopened_by seal.BadTag = unopened.Wrong
unopened_by seal.MemoryOut = unopened.MemoryOut

abbrev pub chain_fault : Unopened → ChainFault
chain_fault unopened.Wrong = chain.StashWrong
chain_fault unopened.MemoryOut = chain.MemoryOut
