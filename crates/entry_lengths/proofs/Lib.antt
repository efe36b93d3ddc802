mod Blocks
mod Others
mod Entries
mod Wrapped
mod RekeyedRows
mod Rekeyings
mod Due
mod Effects
