mod Comings
mod Lowering
mod Membership
mod NamedKeys
mod OwnerOrder
mod Tables
mod Visits
mod Watches
