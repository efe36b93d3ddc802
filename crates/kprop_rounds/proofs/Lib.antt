mod Heard
mod Judgements
mod Ends
mod Sayings
mod Replied
mod Overlong
mod InTime
