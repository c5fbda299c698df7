-- The C calls: what each returns and writes.
pub mod Calls
