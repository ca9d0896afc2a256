-- `Tables`: words laid by way of a substitution table, and looked up. `Keys`: round key after round key, mixed.
mod Tables
mod Keys
