mod Nicks
mod Lists
mod Moments
mod Orders
