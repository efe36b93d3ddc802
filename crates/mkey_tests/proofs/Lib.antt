mod Opened
mod MadeChanges
mod Stored
