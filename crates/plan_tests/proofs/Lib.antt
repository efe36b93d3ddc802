mod Alone
mod OpenedState
mod SteadySteps
mod MadeChanges
