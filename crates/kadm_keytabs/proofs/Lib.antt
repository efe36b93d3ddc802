mod Taking
mod Wholes
mod Extracting
mod Freshness
mod Carried
mod Renewed
mod Judged
